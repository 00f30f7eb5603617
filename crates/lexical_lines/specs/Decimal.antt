-- Decimal numbers that may have leading zeros.
use Rattle.std.specs.Prelude.{◌≡◌, ℕ, ◌-◌, ◌<◌, ◌≤◌, List, length, map, All}
use Rattle.lexical_write_integer.specs.Numeral.{value_of}

-- the byte is the character of a decimal digit
pub record IsDigitByte (byte : ℕ) : Type 0 where
  pub at_least : 48 ≤ byte
  pub at_most : byte ≤ 57

-- the digits of which these bytes are the characters
abbrev pub digits_in : List ℕ → List ℕ
digits_in text = map (λ byte. byte - 48) text

-- the text is one or more decimal digits, with or without leading zeros, whose value is the number
pub record IsDecimalNumeral (number : ℕ) (text : List ℕ) : Type 0 where
  pub nonempty : 0 < length text
  pub bytes : All IsDigitByte text
  pub value : value_of 10 (digits_in text) ≡ number
