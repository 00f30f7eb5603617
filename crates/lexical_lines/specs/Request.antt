-- The request that a valid line makes.
use Rattle.std.specs.Prelude.{◌≡◌, ℕ, ◌≤◌, Bool, List, ◌∷◌, ◌++◌, length, ℤ, pos}
use Rattle.lexical_num.specs.Format.{Format, IsRadix, standard}
use Rattle.lexical_write_integer.specs.Text.{IsDigits}
use Rattle.lexical_lines.specs.declared.request.integer_type.IntegerType.{IntegerType}
use Rattle.lexical_lines.specs.declared.request.Number.{Number}
use Rattle.lexical_lines.specs.declared.request.Number.TheVariants.{WithoutMinus, WithMinus}
use Rattle.lexical_lines.specs.Decimal.{IsDecimalNumeral}
use Rattle.lexical_lines.specs.IntegerType.{name_of, with_sign, Holds}
use Rattle.lexical_lines.specs.Split.{optional_sign}

-- the text is an optional `-` and the digits of a number that the type has
pub record IsValue (kind : IntegerType) (number : ℤ) (text : List ℕ) : Type 0 where
  pub minus : Bool
  pub magnitude : ℕ
  pub digits : List ℕ
  pub holds : Holds kind minus magnitude
  pub decimal : IsDecimalNumeral magnitude digits
  pub whole : text ≡ optional_sign minus 45 ++ digits
  pub value : number ≡ with_sign minus magnitude

-- the line is TYPE, a space, an optional `+`, RADIX, a space and VALUE
pub record IsRequest (kind : IntegerType) (plus : Bool) (radix : ℕ) (number : ℤ) (line : List ℕ) : Type 0 where
  pub radix_text : List ℕ
  pub value_text : List ℕ
  pub radix_valid : IsRadix radix
  pub radix_digits : IsDigits 10 radix radix_text
  pub value : IsValue kind number value_text
  pub short : length line ≤ 64
  pub whole : line ≡ name_of kind ++ 32 ∷ (optional_sign plus 43 ++ (radix_text ++ 32 ∷ value_text))

-- the line is valid
abbrev pub IsValidLine : List ℕ → Type 0
IsValidLine line =
    (kind : IntegerType) × (plus : Bool) × (radix : ℕ) × (number : ℤ) × IsRequest kind plus radix number line

-- the line requests this number in this radix, at some type, and with or without the `+`
unfoldable pub IsRequestFor : ℕ → ℤ → List ℕ → Type 0
IsRequestFor radix number line = (kind : IntegerType) × (plus : Bool) × IsRequest kind plus radix number line

-- the number that a request stores
abbrev pub number_of : Number → ℤ
number_of (WithoutMinus magnitude) = pos magnitude
number_of (WithMinus number) = number

-- the standard format with this mantissa and exponent radix, and with the sign `+` required or not
abbrev pub requested_format : ℕ → Bool → Format
requested_format radix plus =
    record standard { mantissa_radix = radix; exponent_radix = radix; required_mantissa_sign = plus }

-- the line is valid, and requests the number in the format
pub record Requests (line : List ℕ) (number : Number) (format : Format) : Type 0 where
  pub kind : IntegerType
  pub plus : Bool
  pub radix : ℕ
  pub is : IsRequest kind plus radix (number_of number) line
  pub format_is : format ≡ requested_format radix plus
