-- The text of a number, and the length of the buffer that its writer requires.
use Rattle.std.specs.Prelude.{◌≡◌, ℕ, ◌+◌, List, ◌++◌, length, map, ℤ, unsigned_abs, if◌then◌else◌, ◌==◌}
use Rattle.lexical_num.specs.Digit.{digit_char}
use Rattle.lexical_num.specs.Format.{Format, grouped_length}
use Rattle.lexical_num.specs.Sign.{sign_of}
use Rattle.lexical_write_integer.specs.Groups.{grouped}
use Rattle.lexical_write_integer.specs.DigitCount.{digit_count}
use Rattle.lexical_write_integer.specs.Numeral.{IsNumeralOf}

-- the characters of the numeral of a number
pub record IsDigits (r number : ℕ) (text : List ℕ) : Type 0 where
  pub digits : List ℕ
  pub numeral : IsNumeralOf r number digits
  pub characters : text ≡ map digit_char digits

-- the sign of a number, and then the digits of its magnitude, in the groups of the format
pub record IsText (number : ℤ) (format : Format) (text : List ℕ) : Type 0 where
  pub digits : List ℕ
  pub magnitude : IsDigits format.mantissa_radix (unsigned_abs number) digits
  pub whole : text ≡ sign_of number format.required_mantissa_sign ++ grouped format.digit_grouping digits

-- the required length for the digits of a number of a type with this decimal width: in radix 10 the decimal width, and
-- in another radix the number of digits
abbrev pub digits_need : ℕ → ℕ → ℕ → ℕ
digits_need r number decimal_width = if r == 10 then decimal_width else digit_count r number

-- the required length (the need) of a number: its sign, its digits and the separators between their groups
abbrev pub need : ℤ → ℕ → Format → ℕ
need number decimal_width format =
    length (sign_of number format.required_mantissa_sign)
    + grouped_length format.digit_grouping (digits_need format.mantissa_radix (unsigned_abs number) decimal_width)
