-- Numerals: lists of digits in a radix, the most significant first.
use Rattle.std.specs.Prelude.{◌≡◌, ℕ, ◌+◌, ◌*◌, ◌^◌, ◌<◌, List, [], ◌∷◌, length, All, slice_index}

-- at least one digit, each below the radix, and no leading zero unless it is the only digit
pub record IsNumeral (r : ℕ) (digits : List ℕ) : Type 0 where
  pub nonempty : 0 < length digits
  pub below_radix : All (λ d. d < r) digits
  pub no_leading_zero : slice_index digits 0 ≡ 0 → digits ≡ 0 ∷ []

-- the sum of each digit times the radix to the power of the number of digits after it
abbrev pub value_of : ℕ → List ℕ → ℕ
value_of r [] = 0
value_of r (d ∷ digits) = d * r ^ length digits + value_of r digits

-- the digits are the numeral of the number
pub record IsNumeralOf (r number : ℕ) (digits : List ℕ) : Type 0 where
  pub numeral : IsNumeral r digits
  pub value : value_of r digits ≡ number

-- `count` digits whose value is the number, with leading zeros if it has fewer
pub record IsBlockOf (r count number : ℕ) (digits : List ℕ) : Type 0 where
  pub counted : length digits ≡ count
  pub below_radix : All (λ d. d < r) digits
  pub value : value_of r digits ≡ number
