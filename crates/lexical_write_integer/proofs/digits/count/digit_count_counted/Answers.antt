use Rattle.std.proofs.Common.{sym, arith}
use Rattle.std.proofs.Math.Nat.{div-one}
use Rattle.lexical_write_integer.proofs.OfDigits.Count.DigitCounts.{digit_count-le_64, digit_count-pos}
use Rattle.lexical_write_integer.proofs.OfDigits.Count.Logarithms.{digit_count-log2}
use Rattle.lexical_write_integer.proofs.OfDigits.Radix.Loops.Notes.{slow_noted, has_no_fast_count}
use Rattle.lexical_write_integer.proofs.digits.count.digit_count_counted.Goals as goal

pub returns-in-2-clause-count : goal.returns-in-2-clause-count
returns-in-2-clause-count g c =
    rw (c.in-2.is, ← div-one c.fast_log2.result)
    (sym (digit_count-log2 (g.T.UnsignedInteger.magnitude c.args.x) c.fast_log2.result 1 (omega arith)
    c.fast_log2.ensures.log2))

pub returns-in-4-clause-count : goal.returns-in-4-clause-count
returns-in-4-clause-count g c =
    let log2 = c.fast_log2-in-4.ensures.log2 in
    rw c.in-4.is (omega (
      arith,
      digit_count-log2 (g.T.UnsignedInteger.magnitude c.args.x) c.fast_log2-in-4.result 2
          (omega arith) log2,
    ))

pub returns-in-8-clause-count : goal.returns-in-8-clause-count
returns-in-8-clause-count g c = grind (arith, digit_count-log2)

pub returns-in-16-clause-count : goal.returns-in-16-clause-count
returns-in-16-clause-count g c =
    let log2 = c.fast_log2-in-16.ensures.log2 in
    rw c.in-16.is (omega (
      arith,
      digit_count-log2 (g.T.UnsignedInteger.magnitude c.args.x) c.fast_log2-in-16.result 4
          (omega arith) log2,
    ))

pub returns-in-32-clause-count : goal.returns-in-32-clause-count
returns-in-32-clause-count g c =
    rw c.in-32.is (sym (digit_count-log2 (g.T.UnsignedInteger.magnitude c.args.x) c.fast_log2-in-32.result 5
    (omega arith) c.fast_log2-in-32.ensures.log2))

pub returns-in-10-clause-some : goal.returns-in-10-clause-some
returns-in-10-clause-some g c =
    omega (arith, c.decimal_count.ensures, digit_count-pos 10 (g.T.UnsignedInteger.magnitude c.args.x))

pub returns-in-10-clause-at_most_64 : goal.returns-in-10-clause-at_most_64
returns-in-10-clause-at_most_64 g c = grind (arith, digit_count-le_64)

pub returns-in_default-clause-notes : goal.returns-in_default-clause-notes
returns-in_default-clause-notes g c = grind (arith, slow_noted, has_no_fast_count)
