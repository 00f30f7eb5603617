-- Numbers in scientific notation, as `1.234e-56`.
use Rattle.std.specs.Prelude.{◌≡◌, ℕ, zero, suc, ◌*◌, ◌/◌, ◌%◌, ◌^◌, ℤ, pos, ◌+ℤ◌, unsigned_abs, false, List, ◌++◌}
use Rattle.std.specs.Prelude.{codes}
use Rattle.std.specs.Prelude.{None, if◌then◌else◌, ◌==◌}
use Rattle.lexical_num.specs.Format.{standard}
use Rattle.lexical_num.specs.Sign.{sign_of}
use Rattle.lexical_write_integer.specs.Computed.{text_of}
use Rattle.lexical_write_integer.specs.LoopTurns.{digits_after_first}
use Rattle.lexical_write_integer.specs.Sequence.{IsExactly}
use Rattle.lexical_parts.specs.Fixed.{IsUnits, units_text}
use Rattle.lexical_parts.specs.Sequence.{◌then◌, IsStr, IsDecimal}

-- the exponent of the first digit of a number times 10 ^ `exponent`; that of 0 is 0
abbrev pub exponent_of_first : ℕ → ℤ → ℤ
exponent_of_first number exponent = if number == 0 then pos 0 else exponent +ℤ pos (digits_after_first 10 number)

-- a natural number times 10 ^ `exponent`: its digits without the zeros at their end, with a point after the first if
-- there are more, and the exponent of the first
pub record IsScientificUnsigned (number : ℕ) (exponent : ℤ) (text : List ℕ) : Type 0 where
  pub units : ℕ
  pub zeros : ℕ
  pub whole : number ≡ units * 10 ^ zeros
  pub shortest : units % 10 ≡ 0 → (units ≡ 0) × (zeros ≡ 0)
  pub is : (IsUnits (digits_after_first 10 units) units
      then IsStr "e" then IsDecimal (exponent_of_first number exponent)) text

-- a number times 10 ^ `exponent`, with a `-` if it is negative
abbrev pub IsScientific : ℤ → ℤ → List ℕ → Type 0
IsScientific number exponent =
    IsExactly (sign_of number false) then IsScientificUnsigned (unsigned_abs number) exponent

-- the same texts as the prover computes them: a number without the zeros at its end, of which it has at most `most`,
-- and the text of a number below 2 ^ 64
abbrev pub without_zeros : ℕ → ℕ → ℕ
without_zeros zero number = number
without_zeros (suc most) number = if number % 10 == 0 then without_zeros most (number / 10) else number

abbrev pub scientific_text : ℤ → ℤ → List ℕ
scientific_text number exponent =
    let units = without_zeros 20 (unsigned_abs number) in
    sign_of number false ++ (units_text None (digits_after_first 10 units) units
    ++ (codes "e" ++ text_of (exponent_of_first (unsigned_abs number) exponent) standard))
