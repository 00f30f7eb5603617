-- The smallest and the largest number of each integer type.
use Rattle.std.specs.Prelude.{◌≡◌, ℕ, ◌-◌, ◌^◌, Bool, true, false, ℤ, pos, negsuc, unsigned_abs}
use Rattle.std.proofs.Common.{ap}
use Rattle.lexical_num.specs.BitWidth.{IsBitWidth}

-- the smallest number of an unsigned or a signed type with this number of bits
abbrev pub least_of : ℕ → Bool → ℤ
least_of bits false = pos 0
least_of bits true = negsuc (2 ^ (bits - 1) - 1)

-- the largest number of such a type
abbrev pub greatest_of : ℕ → Bool → ℤ
greatest_of bits false = pos (2 ^ bits - 1)
greatest_of bits true = pos (2 ^ (bits - 1) - 1)

-- the smallest and the largest number of an unsigned type
pub record IsUnsigned (bits : ℕ) (least greatest : ℤ) : Type 0 where
  pub width : IsBitWidth bits
  pub from_zero : least ≡ pos 0
  pub to_greatest : greatest ≡ pos (2 ^ bits - 1)

-- two numbers from 0 are equal if they are equal as integers
pub equal_by_pos : (x y : ℕ) → pos x ≡ pos y → x ≡ y
equal_by_pos x y same = ap unsigned_abs same
