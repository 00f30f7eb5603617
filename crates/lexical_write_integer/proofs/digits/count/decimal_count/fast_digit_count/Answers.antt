use Rattle.std.proofs.Common.{◌≡◌, ◌+◌, ◌/◌, ◌<◌, ℕ, get_or, arith}
use Rattle.lexical_write_integer.specs.Logarithm.{IsLog2}
use Rattle.lexical_write_integer.specs.DigitCount.{digit_count}
use Rattle.lexical_num.specs.BitWidth.{is_32}
use Rattle.lexical_write_integer.specs.declared.digits.count.decimal_count.TheConstants.{DIGITS_BY_LOG2}
use Rattle.lexical_write_integer.proofs.OfDigits.Count.DecimalTables.{fast_digit_count-is}
use Rattle.lexical_write_integer.proofs.OfDigits.Count.DigitCounts.{digit_count-le_64}
use Rattle.lexical_write_integer.proofs.digits.count.decimal_count.fast_digit_count.Goals as goal

counted : (k x x' : ℕ) → k < 32 → x' < 4294967296 → x ≡ x' → IsLog2 x' k
    → (x + get_or DIGITS_BY_LOG2 k 0) / 4294967296 ≡ digit_count 10 x'
counted k x x' place fits same log = rw same (fast_digit_count-is k x' place fits log)

pub overflow_add-result : goal.overflow_add-result
overflow_add-result c =
    let count = counted c.fast_log2.result c.from.result c.args.x c.fast_log2.ensures.within c.ranges.x.fits
    c.from.ensures c.fast_log2.ensures.log2 in
    omega (arith, count, digit_count-le_64 10 c.args.x 32 (omega arith) is_32 c.ranges.x.fits)

pub returns : goal.returns
returns c = counted c.fast_log2.result c.from.result c.args.x c.fast_log2.ensures.within c.ranges.x.fits c.from.ensures
    c.fast_log2.ensures.log2
