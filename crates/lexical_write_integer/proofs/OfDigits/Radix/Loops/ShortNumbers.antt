-- Numbers of one to four digits, which are written without a loop.
use Rattle.std.proofs.Common.{◌≡◌, ℕ, ◌*◌, ◌/◌, ◌^◌, ◌<◌, ◌≤◌, List, drop, arith}
use Rattle.std.proofs.Math.Nat.{div-eq_of_lt, pow-le-pow_right}
use Rattle.std.proofs.lemmas.Bool.{cases_lt}
use Rattle.std.proofs.lemmas.Nat.{pow-add, le-div}
use Rattle.lexical_write_integer.specs.Buffer.{WritesBlock}
use Rattle.lexical_write_integer.specs.DigitCount.{digit_count}
use Rattle.lexical_write_integer.specs.LoopTurns.{takes_four}
use Rattle.lexical_write_integer.proofs.OfDigits.Count.RadixPowers.{power-gt_one}
use Rattle.lexical_write_integer.proofs.OfDigits.Count.DigitCounts.{digit_count-fits, digit_count-le}

-- if a quotient is not 0, the number is at least the divisor
pub quotient-some : (k n : ℕ) → 0 < n / k → k ≤ n
quotient-some k n some = grind (arith, cases_lt, div-eq_of_lt)

-- if the quotient is 0, the number is smaller than the divisor
pub quotient-none : (k n : ℕ) → 0 < k → n / k ≤ 0 → n < k
quotient-none k n pos none = grind (arith, cases_lt, le-div)

-- digits that were written before are written over
pub WritesBlock-over : {r count n : ℕ} {before between after : List ℕ}
    → drop count between ≡ drop count before → WritesBlock r count n 0 between after
    → WritesBlock r count n 0 before after
WritesBlock-over {count = count} following b = grind arith

-- a number of at most k digits is below the radix to the power of k
pub fits-within : (r n k : ℕ) → 2 ≤ r → digit_count r n ≤ k → n < r ^ k
fits-within r n k two few =
    omega (arith, digit_count-fits r n two, pow-le-pow_right {n = r} (omega arith) {i = digit_count r n} {j = k} few)

-- a number of more than k digits, at least one, is not below that power
pub longer-than : (r n k : ℕ) → 1 ≤ k → k < digit_count r n → r ^ k ≤ n
longer-than r n k some more = grind (arith, cases_lt, digit_count-le)

-- a number of more than eight digits, and its first quotient, have more than four digits
pub record IsAboveEight (r n : ℕ) : Type 0 where
  pub value : r ^ 4 ≤ n
  pub first : r ^ 4 ≤ n / r ^ 4

-- a number that is at least the eighth power of the radix is such a number
pub IsAboveEight-of : {r n : ℕ} → 2 ≤ r → r ^ 8 ≤ n → IsAboveEight r n
IsAboveEight-of {r} {n} two long =
    let some : 0 < r ^ 4 = omega (arith, power-gt_one r 4 two takes_four) in
    let both : r ^ 4 * r ^ 4 ≤ n = rw (pow-add r 4 4) at long in
    record { value = grind (arith, both, some); first = le-div (r ^ 4) n (r ^ 4) some both }
