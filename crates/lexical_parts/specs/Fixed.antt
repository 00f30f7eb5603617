-- Numbers of units of a power of ten, with a decimal point.
use Rattle.std.specs.Prelude.{ℕ, zero, suc, ◌+◌, ◌-◌, ◌/◌, ◌%◌, ◌^◌, ◌<◌, ◌≤◌, max, min, ℤ, pos, unsigned_abs}
use Rattle.std.specs.Prelude.{List, [], ◌++◌, codes, length, take, drop, Bool, false, Option, if◌then◌else◌}
use Rattle.lexical_num.specs.Format.{grouped_length, standard}
use Rattle.lexical_num.specs.Sign.{sign_of}
use Rattle.lexical_write_integer.specs.Computed.{padded_text, text_of}
use Rattle.lexical_write_integer.specs.Padded.{IsPadded}
use Rattle.lexical_write_integer.specs.Sequence.{IsExactly}
use Rattle.lexical_write_integer.specs.Text.{IsDigits, IsText}
use Rattle.lexical_parts.specs.Sequence.{◌then◌, IsStr}

-- the point and this many digits of the fraction, or no bytes if there are none
abbrev pub IsFraction : ℕ → ℕ → List ℕ → Type 0
IsFraction zero units = IsExactly []
IsFraction (suc decimals) units = IsStr "." then IsPadded 10 (suc decimals) units

-- a number of units of 10^-decimals without its sign: the whole part, and the fraction
abbrev pub IsUnits : ℕ → ℕ → List ℕ → Type 0
IsUnits decimals units =
    IsDigits 10 (units / 10 ^ decimals) then IsFraction decimals (units % 10 ^ decimals)

-- a number of units of 10^-decimals: for -5 and 2 it is `-0.05`
abbrev pub IsFixed : ℕ → ℤ → List ℕ → Type 0
IsFixed decimals number =
    IsExactly (sign_of number false) then IsUnits decimals (unsigned_abs number)

-- the bytes for the sign, the digits and the point, for a type whose numbers have at most `width` digits
abbrev pub fixed_room : Bool → ℕ → ℕ → ℕ
fixed_room is_signed width decimals = (if is_signed then 1 else 0) + (max width (decimals + 1) + min decimals 1)

-- the same without its sign, with the whole part in groups
abbrev pub IsGroupedUnits : Option (ℕ × ℕ) → ℕ → ℕ → List ℕ → Type 0
IsGroupedUnits grouping decimals units =
    IsText (pos (units / 10 ^ decimals)) (record standard { digit_grouping = grouping })
    then IsFraction decimals (units % 10 ^ decimals)

-- a number of units of 10^-decimals with the whole part in groups: for 123456 and 2 it can be `1,234.56`
abbrev pub IsGroupedFixed : Option (ℕ × ℕ) → ℕ → ℤ → List ℕ → Type 0
IsGroupedFixed grouping decimals number =
    IsExactly (sign_of number false) then IsGroupedUnits grouping decimals (unsigned_abs number)

-- the same texts as the prover computes them: the fraction, all but the sign, and all
abbrev pub fraction_text : ℕ → ℕ → List ℕ
fraction_text zero units = []
fraction_text (suc decimals) units = codes "." ++ padded_text 10 (suc decimals) units

abbrev pub units_text : Option (ℕ × ℕ) → ℕ → ℕ → List ℕ
units_text grouping decimals units =
    text_of (pos (units / 10 ^ decimals)) (record standard { digit_grouping = grouping })
    ++ fraction_text decimals (units % 10 ^ decimals)

abbrev pub fixed_text : Option (ℕ × ℕ) → ℕ → ℤ → List ℕ
fixed_text grouping decimals number = sign_of number false ++ units_text grouping decimals (unsigned_abs number)

-- the bytes for the digits, the separators and the point
abbrev pub grouped_units_room : Option (ℕ × ℕ) → ℕ → ℕ → ℕ
grouped_units_room grouping width decimals =
    grouped_length grouping (max width (decimals + 1) - decimals) + (decimals + min decimals 1)

-- the digits of a number of units, for a type whose numbers have at most `width` digits: zeros before them make at
-- least one digit for the whole part
pub record AreUnits (decimals units width : ℕ) (digits : List ℕ) : Type 0 where
  pub more : decimals < length digits
  pub few : length digits ≤ max width (decimals + 1)
  pub whole : IsDigits 10 (units / 10 ^ decimals) (take (length digits - decimals) digits)
  pub rest : IsPadded 10 decimals (units % 10 ^ decimals) (drop (length digits - decimals) digits)
