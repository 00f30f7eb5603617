-- The number of digits of a number.
use Rattle.std.specs.Prelude.{if◌then◌else◌, nat_lt, suc, zero, ℕ, ◌<◌, ◌^◌, ◌≤◌}
use Rattle.std.proofs.Common.{ltb, inl, inr, arith}
use Rattle.std.proofs.Math.Nat.{pow-le-pow_left}
use Rattle.std.proofs.lemmas.Bool.{cases_eq, ltb-false, cond_both}

-- the first of n, n + 1, .. such that the number is below r to that power; the search ends after `steps` steps
unfoldable pub least_exponent : ℕ → ℕ → ℕ → ℕ → ℕ
least_exponent r number n zero = n
least_exponent r number n (suc steps) = if nat_lt number (r ^ n) then n else least_exponent r number (suc n) steps

-- the number of digits of a number: the smallest n, not 0, such that the number is below r ^ n
unfoldable pub digit_count : ℕ → ℕ → ℕ
digit_count r number = least_exponent r number 1 number

-- ---- proofs, which are here since ghost members depend on them

-- the digit count is the smallest such count
least_exponent-le : (r number n steps m : ℕ) → n ≤ m → number < r ^ m → least_exponent r number n steps ≤ m
unfolding least_exponent
least_exponent-le r number n zero m most fits = most
least_exponent-le r number n (suc steps) m most fits =
    cond_both (ltb number (r ^ n)) n (least_exponent r number (suc n) steps) (λ k. k ≤ m)
    (λ _. most)
    (λ e. elim (cases_eq n m) [
      | inl same ↦ absurd (omega (arith, rw same at (ltb-false number (r ^ n) e)))
      | inr other ↦ least_exponent-le r number (suc n) steps m (omega arith) fits
    ])

pub digit_count-le : (r number m : ℕ) → 1 ≤ m → number < r ^ m → digit_count r number ≤ m
unfolding digit_count
digit_count-le r number m = least_exponent-le r number 1 number m

-- no radix needs more digits than binary
pub digit_count-le_bits : (r n bits : ℕ) → 2 ≤ r → 1 ≤ bits → n < 2 ^ bits → digit_count r n ≤ bits
digit_count-le_bits r n bits two one fits =
    digit_count-le r n bits one (omega (arith, pow-le-pow_left {n = 2} {m = r} two bits))
