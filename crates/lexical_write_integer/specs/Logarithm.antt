-- Logarithms, rounded down.
use Rattle.std.specs.Prelude.{◌≡◌, ℕ, ◌^◌, ◌<◌, ◌≤◌}

-- k is the largest exponent such that the base to that power is at most the number
pub record IsGreatestPower (base number k : ℕ) : Type 0 where
  pub within : base ^ k ≤ number
  pub greatest : (e : ℕ) → base ^ e ≤ number → e ≤ k

-- the logarithm to base 2, rounded down, and 0 for 0
pub record IsLog2 (number k : ℕ) : Type 0 where
  pub of_zero : number ≡ 0 → k ≡ 0
  pub of_positive : 0 < number → IsGreatestPower 2 number k

-- the logarithm to base 10, rounded down, of the largest power of 2 that is at most the number, and 0 for 0
pub record IsLog10Estimate (number e : ℕ) : Type 0 where
  pub log2 : ℕ
  pub is_log2 : IsLog2 number log2
  pub estimate : IsGreatestPower 10 (2 ^ log2) e
