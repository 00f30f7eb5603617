-- Fixed-point fractions that hold the decimal digits of a number, with 32 bits after the point.
use Rattle.std.specs.Prelude.{ℕ, ◌+◌, ◌*◌, ◌/◌, ◌^◌, ◌<◌, ◌≤◌}

-- y / 2 ^ 32 equals n / 100 ^ k or exceeds it by less than one unit of the last pair, so its whole part and the k pairs
-- after the point are the digits of n
pub record Carries (n y k : ℕ) : Type 0 where
  pub at_least : n * 2 ^ 32 ≤ y * 100 ^ k
  pub below : y * 100 ^ k < (n + 1) * 2 ^ 32

-- the number whose digits are the whole part of a fraction and this number of pairs after the point
abbrev pub carried : ℕ → ℕ → ℕ
carried fraction pairs = fraction * 100 ^ pairs / 2 ^ 32
