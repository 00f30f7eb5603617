-- Logarithms, rounded down, and what follows from them for the number of digits.
use Rattle.std.proofs.lemmas.Grind.{common_steps}
use Rattle.std.proofs.Common.{◌≡◌, ℕ, zero, suc, ◌+◌, ◌-◌, ◌*◌, ◌/◌, ◌^◌, ◌<◌, ◌≤◌, Bool, true, ◌&&◌, ltb, leb, refl}
use Rattle.std.proofs.Common.{inl, inr, arith}
use Rattle.std.proofs.Math.Nat.{pow-suc, pow-le-pow_left, pow-le-pow_right, one-le-pow}
use Rattle.std.proofs.lemmas.Bool.{and_parts, cases_lt, cases_eq, ltb-true, leb-true}
use Rattle.lexical_write_integer.specs.Logarithm.{IsGreatestPower, IsLog2, IsLog10Estimate}
use Rattle.lexical_write_integer.specs.DigitCount.{digit_count, digit_count-le}
use Rattle.lexical_write_integer.proofs.OfDigits.Count.DigitCounts.{digit_count-is}
use Rattle.lexical_write_integer.proofs.OfDigits.Powers.{pow-pow}

-- if a number is at least one power of the base and below the next, the first is the greatest within it
pub IsGreatestPower-between : (base number k : ℕ) → 2 ≤ base → base ^ k ≤ number → number < base ^ (k + 1)
    → IsGreatestPower base number k
IsGreatestPower-between base number k two low high = grind (arith, pow-le-pow_right)

-- a number is below the power after the greatest one within it
pub IsGreatestPower-lt : (base number k : ℕ) → IsGreatestPower base number k → number < base ^ (k + 1)
IsGreatestPower-lt base number k g = grind (arith, cases_lt)

-- ---- base 2

-- a number, even 0, is below the power of two after its logarithm
pub IsLog2-lt : (number k : ℕ) → IsLog2 number k → number < 2 ^ (k + 1)
IsLog2-lt number k log = grind (arith, cases_lt, IsGreatestPower-lt, one-le-pow)

-- ---- base 10

-- the estimate for the numbers whose highest bit is at position k
is_estimated : ℕ → Bool
is_estimated k = leb (10 ^ (k * 1233 / 4096)) (2 ^ k) && ltb (2 ^ k) (10 ^ (k * 1233 / 4096 + 1))

-- whether k * 1233 / 4096 passes the test as logarithm of 2 ^ k to base 10, rounded down, for each k below this number
are_estimated : ℕ → Bool
are_estimated zero = true
are_estimated (suc n) = is_estimated n && are_estimated n

-- if the estimates of the logarithm of 2 ^ k to base 10 pass the test for all k below n, each of them passes it alone
are_estimated-each : (n k : ℕ) → are_estimated n ≡ true → k < n → is_estimated k ≡ true
unfolding are_estimated
are_estimated-each zero k all less = absurd (omega arith)
are_estimated-each (suc n) k all less =
    let parts = and_parts (is_estimated n) (are_estimated n) all in
    elim (cases_eq k n) [
      | inl same ↦ rw same (parts.0)
      | inr other ↦ are_estimated-each n k (parts.1) (omega arith)
    ]

-- the estimates of the logarithm of 2 ^ k to base 10 pass the test for all k below 64
are_estimated-64 : are_estimated 64 ≡ true
unfolding are_estimated is_estimated
are_estimated-64 = refl

-- the logarithm of 2 ^ k to base 10, rounded down, is k * 1233 / 4096 if k is below 64
pub estimate_is : (k : ℕ) → k < 64 → IsGreatestPower 10 (2 ^ k) (k * 1233 / 4096)
unfolding is_estimated
estimate_is k small =
    let e = k * 1233 / 4096 in
    let parts = and_parts (leb (10 ^ e) (2 ^ k)) (ltb (2 ^ k) (10 ^ (e + 1)))
    (are_estimated-each 64 k are_estimated-64 small) in
    IsGreatestPower-between 10 (2 ^ k) e (omega arith) (leb-true (10 ^ e) (2 ^ k) (parts.0))
    (ltb-true (2 ^ k) (10 ^ (e + 1)) (parts.1))

-- ---- the number of digits

-- if e is the estimate of the logarithm of a number to base 10, the number is below 10 ^ (e + 2)
log10-lt : (number e : ℕ) → IsLog10Estimate number e → number < 10 ^ (e + 2)
log10-lt number e est =
    let more : e + 2 ≡ suc (e + 1) = omega arith in
    let up : est.log2 + 1 ≡ suc est.log2 = omega arith in
    grind (arith, IsLog2-lt, IsGreatestPower-lt, pow-suc)

-- the digit count is one or two more than the estimate
pub digit_count-estimate : (number e : ℕ) → IsLog10Estimate number e → number < 10 ^ (e + 1)
    → digit_count 10 number ≡ e + 1
digit_count-estimate number e est below = grind (arith, common_steps, digit_count-is)

-- it is two more if the number is at least the power of ten after the estimate
pub digit_count-estimate_more : (number e : ℕ) → IsLog10Estimate number e → 10 ^ (e + 1) ≤ number
    → digit_count 10 number ≡ e + 2
digit_count-estimate_more number e est above =
    let last : e + 2 - 1 ≡ e + 1 = omega arith in
    digit_count-is 10 number (e + 2) (omega arith) (omega arith) (log10-lt number e est) (λ more. rw last above)

-- the digit count in a radix that is a power of two, by the logarithm to base 2
pub digit_count-log2 : (number k step : ℕ) → 0 < step → IsLog2 number k → digit_count (2 ^ step) number ≡ k / step + 1
digit_count-log2 number k step some log =
    let q = k / step in
    let last : q + 1 - 1 ≡ q = omega arith in
    let two : 2 ≤ 2 ^ step = omega (arith, pow-le-pow_right {n = 2} (omega arith) {i = 1} {j = step} some) in
    let high : number < 2 ^ (step * (q + 1)) =
    omega (
      arith,
      IsLog2-lt number k log,
      pow-le-pow_right {n = 2} (omega arith) {i = k + 1} {j = step * (q + 1)}
          (omega arith),
    ) in
    let low : 0 < q → 2 ^ (step * q) ≤ number = λ pos.
    elim (cases_lt 0 number) [
      | inl positive ↦ omega (
        arith,
        (log.of_positive positive).within,
        pow-le-pow_right {n = 2} (omega arith) {i = step * q} {j = k} (omega arith),
      )
      | inr none ↦ absurd (omega (arith, log.of_zero (omega arith)))
    ] in
    digit_count-is (2 ^ step) number (q + 1) two (omega arith) (rw pow-pow high)
    (λ more. rw (last, pow-pow) (low (omega arith)))

-- a radix of at least 2 has a logarithm to base 2 above 0
pub IsLog2-some : (r k : ℕ) → 2 ≤ r → IsLog2 r k → 0 < k
IsLog2-some r k two log = (log.of_positive (omega (arith, two))).greatest 1 (omega (arith, two))

-- a digit has at least as many bits as the logarithm of the radix
pub digit_count-le_log2 : (r n bits k : ℕ) → 2 ≤ r → IsLog2 r k → 1 ≤ bits → n < 2 ^ bits
    → digit_count r n ≤ (bits - 1) / k + 1
digit_count-le_log2 r n bits k two log some fits =
    let power = log.of_positive (omega (arith, two)) in
    let one = IsLog2-some r k two log in
    let most = (bits - 1) / k + 1 in
    let enough : bits ≤ k * most = omega (arith, one, some) in
    let of_bits = pow-le-pow_right {n = 2} (omega arith) {i = bits} {j = k * most} enough in
    let of_radix : (2 ^ k) ^ most ≤ r ^ most = pow-le-pow_left {n = 2 ^ k} {m = r} power.within most in
    let below : 2 ^ (k * most) ≤ r ^ most = rw pow-pow at of_radix in
    digit_count-le r n most (omega arith) (omega (arith, fits, of_bits, below))
