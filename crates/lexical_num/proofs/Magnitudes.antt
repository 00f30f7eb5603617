-- The magnitudes of the numbers of a type, and how many decimal digits they have.
use Rattle.std.proofs.Common.{◌≡◌, ℕ, ◌-◌, ◌*◌, ◌^◌, ◌<◌, ◌≤◌, arith, inl, inr, ℤ, ◌≤ℤ◌, unsigned_abs, Bool, true}
use Rattle.std.proofs.Common.{false}
use Rattle.std.proofs.Math.Nat.{pow-le-pow_right}
use Rattle.std.proofs.lemmas.Bool.{cases_lt}
use Rattle.lexical_num.specs.BitWidth.{IsBitWidth}
use Rattle.lexical_num.specs.DecimalWidth.{IsDecimalWidth}
use Rattle.lexical_num.specs.Range.{greatest_of, least_of}

-- a power of two is twice the one before it, and some number is below each of the two
halves : {bits : ℕ} → IsBitWidth bits → (2 ^ bits ≡ 2 * 2 ^ (bits - 1)) × (0 < 2 ^ (bits - 1)) × (2 ^ bits ≤ 2 ^ 64)
halves v0 = grind arith

-- a magnitude has no more bits than the type
pub magnitude-below : {bits : ℕ} (is_signed : Bool) → IsBitWidth bits → (x : ℤ) → least_of bits is_signed ≤ℤ x
    → x ≤ℤ greatest_of bits is_signed → unsigned_abs x < 2 ^ bits
magnitude-below v0 width v2 low high = grind arith

-- a magnitude fits in 64 bits
pub magnitude-small : {bits : ℕ} (is_signed : Bool) → IsBitWidth bits → (x : ℤ) → least_of bits is_signed ≤ℤ x
    → x ≤ℤ greatest_of bits is_signed → unsigned_abs x < 2 ^ 64
magnitude-small is_signed width x low high = omega (arith, halves width, magnitude-below is_signed width x low high)

-- no type has numbers of more than 20 decimal digits
pub decimal_width-le_20 : {bits width : ℕ} (is_signed : Bool) → IsBitWidth bits
    → IsDecimalWidth (least_of bits is_signed) (greatest_of bits is_signed) width → width ≤ 20
decimal_width-le_20 {bits} {width} is_signed of_type is =
    elim (cases_lt 20 width) [
      | inr few ↦ few
      | inl more ↦
          let power = pow-le-pow_right {n = 10} (omega arith) {i = 20} {j = width - 1} (omega arith) in
          absurd (omega (arith, power, is.needed, greatest-below is_signed of_type))
    ]
  where
    greatest-below : {bits : ℕ} (is_signed : Bool) → IsBitWidth bits
        → unsigned_abs (greatest_of bits is_signed) < 10 ^ 20
    greatest-below false width = omega (arith, halves width)
    greatest-below true width = omega (arith, halves width)
