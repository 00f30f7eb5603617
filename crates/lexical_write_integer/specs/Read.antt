-- Texts that std's `from_str_radix` reads as a number, in the words of its contract. In radix 10 `parse` does the same.
use Rattle.std.specs.Prelude.{◌≡◌, ℕ, List, ℤ, Option, pos}
use Rattle.std.specs.Str.Parse.{IsNumeral, digits_value, signed_digits_value}
use Rattle.std.specs.Str.Parse.{without_leading_plus, without_leading_sign}
use Rattle.lexical_write_integer.specs.Groups.{without_separators}
use Rattle.lexical_write_integer.specs.Lowercase.{IsLowercase}

-- at a signed type: digits after any sign, which write the number
pub record IsReadAsSigned (radix : ℕ) (number : ℤ) (text : List ℕ) : Type 0 where
  pub numeral : IsNumeral radix (without_leading_sign text)
  pub value : signed_digits_value radix text ≡ number

-- at an unsigned type: digits after any `+`, which write the number
pub record IsReadAsUnsigned (radix number : ℕ) (text : List ℕ) : Type 0 where
  pub numeral : IsNumeral radix (without_leading_plus text)
  pub value : digits_value radix (without_leading_plus text) ≡ number

-- texts of the kind P, and the same in lowercase, at each type that has the number
pub record AreReadAs (radix : ℕ) (number : ℤ) (P : List ℕ → Type 0) : Type 0 where
  pub signed : (text : List ℕ) → P text → IsReadAsSigned radix number text
  pub unsigned : (n : ℕ) → number ≡ pos n → (text : List ℕ) → P text → IsReadAsUnsigned radix n text
  pub lowercase : (text : List ℕ) → IsLowercase P text → IsReadAsSigned radix number text
  pub unsigned_lowercase : (n : ℕ) → number ≡ pos n
      → (text : List ℕ) → IsLowercase P text → IsReadAsUnsigned radix n text

-- a text of the kind P without the separators between its groups
pub record IsWithoutSeparators (grouping : Option (ℕ × ℕ)) (P : List ℕ → Type 0) (text : List ℕ) : Type 0 where
  pub original : List ℕ
  pub is : P original
  pub whole : text ≡ without_separators grouping original
