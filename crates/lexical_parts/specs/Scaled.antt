-- Numbers times powers of ten.
use Rattle.std.specs.Prelude.{◌≡◌, ℕ, ◌^◌, ℤ, pos, ◌+ℤ◌, ◌*ℤ◌}

-- x times 10 ^ e is y times 10 ^ f: once both are multiplied by a power of ten that makes them integers
pub record AreEqualScaled (x e y f : ℤ) : Type 0 where
  pub scaled : (k m : ℕ) → e +ℤ pos k ≡ f +ℤ pos m → x *ℤ pos (10 ^ m) ≡ y *ℤ pos (10 ^ k)
