use Rattle.std.proofs.Common.{◌≡◌, ◌+◌, ◌/◌, ◌<◌, sym, ◌∙◌, arith}
use native.Mathlib.Numerals.{unary_clauses}
use Rattle.std.proofs.Math.Nat.{add-div_right}
use Rattle.lexical_write_integer.specs.DigitCount.{digit_count}
use Rattle.lexical_write_integer.specs.Logarithm.{IsLog2}
use Rattle.lexical_write_integer.proofs.OfDigits.Count.Logarithms.{IsGreatestPower-between, digit_count-log2}
use Rattle.lexical_write_integer.proofs.OfDigits.Powers.{pow-one}
use Rattle.lexical_write_integer.proofs.OfDigits.Radix.FirstDigits.{power_of_two}
use Rattle.lexical_write_integer.proofs.digits.radix.count_then_write.count_of_nonzero.Goals as goal
use Rattle.lexical_write_integer.proofs.digits.radix.count_then_write.count_of_nonzero.Goals.{After-ilog2-log2}

-- at least one bit is in a digit
some_bits : (c : After-ilog2-log2) → 0 < c.fast_log2-bits.result
some_bits c =
    let two = c.requires.radix.at_least_two in
    (c.fast_log2-bits.ensures.log2.of_positive (omega (arith, two))).greatest 1 (rw pow-one two)

counted : (c : After-ilog2-log2) → c.ilog2-log2.result / c.fast_log2-bits.result + 1
    ≡ digit_count c.args.radix c.args.value
counted c =
    let n = c.args.value in
    let k = c.ilog2-log2.result in
    let bits = c.fast_log2-bits.result in
    let log : IsLog2 n k = record {
      of_zero = λ none. absurd (omega (arith, c.requires.some, none));
      of_positive = λ _.
          IsGreatestPower-between 2 n k (omega arith) c.ilog2-log2.ensures.power_le
          (simp unary_clauses (omega (arith, c.ilog2-log2.ensures.next_power_gt)));
    } in
    rw (power_of_two c.args.radix bits c.if-radix-bits.true c.fast_log2-bits.ensures.within)
    (sym (digit_count-log2 n k bits (some_bits c) log))

pub returns-then-radix-eq16-clause-count : goal.returns-then-radix-eq16-clause-count
returns-then-radix-eq16-clause-count c =
    let c' = (goal.at.returns-then-radix-eq16-clause-count c).After-ilog2-log2 in
    add-div_right c.ilog2-log2.result (some_bits c') ∙ counted c'

pub returns-else-radix-eq16-clause-count : goal.returns-else-radix-eq16-clause-count
returns-else-radix-eq16-clause-count c = counted (goal.at.returns-else-radix-eq16-clause-count c).After-ilog2-log2
