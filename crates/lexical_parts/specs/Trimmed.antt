-- Numbers of units of a power of ten, without zeros at the end of the fraction.
use Rattle.std.specs.Prelude.{◌≡◌, ℕ, zero, suc, ◌-◌, ◌*◌, ◌/◌, ◌%◌, ◌^◌, ◌≤◌, ◌==◌, ℤ, unsigned_abs, if◌then◌else◌}
use Rattle.std.specs.Prelude.{false, List, ◌++◌, None}
use Rattle.lexical_num.specs.Sign.{sign_of}
use Rattle.lexical_write_integer.specs.Sequence.{IsExactly}
use Rattle.lexical_parts.specs.Fixed.{IsUnits, units_text}
use Rattle.lexical_parts.specs.Sequence.{◌then◌}

-- a number of units of 10^-decimals without its sign, in `left` larger units with as few decimals as possible
pub record IsTrimmedUnits (decimals units : ℕ) (text : List ℕ) : Type 0 where
  pub left : ℕ
  pub zeros : ℕ
  pub few : zeros ≤ decimals
  pub whole : units ≡ left * 10 ^ zeros
  pub shortest : left % 10 ≡ 0 → zeros ≡ decimals
  pub is : IsUnits (decimals - zeros) left text

-- a number of units of 10^-decimals without zeros at the end of its fraction: for -1500 and 3 it is `-1.5`
abbrev pub IsTrimmedFixed : ℕ → ℤ → List ℕ → Type 0
IsTrimmedFixed decimals number =
    IsExactly (sign_of number false) then IsTrimmedUnits decimals (unsigned_abs number)

-- the same texts as the prover computes them: all but the sign, and all
abbrev pub trimmed_units_text : ℕ → ℕ → List ℕ
trimmed_units_text zero units = units_text None zero units
trimmed_units_text (suc decimals) units =
    if units % 10 == 0 then trimmed_units_text decimals (units / 10) else units_text None (suc decimals) units

abbrev pub trimmed_text : ℕ → ℤ → List ℕ
trimmed_text decimals number = sign_of number false ++ trimmed_units_text decimals (unsigned_abs number)
