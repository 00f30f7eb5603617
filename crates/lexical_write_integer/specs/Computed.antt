-- The text of a number as a function that computes: for a literal, its value is the list of the bytes.
use Rattle.std.specs.Prelude.{ℕ, zero, suc, ◌+◌, ◌/◌, ◌%◌, List, [], ◌∷◌, ◌++◌, true, min, ℤ, unsigned_abs}
use Rattle.std.specs.Fmt.{digits_onto}
use Rattle.lexical_num.specs.Digit.{digit_char}
use Rattle.lexical_num.specs.Format.{Format}
use Rattle.lexical_num.specs.Sign.{sign_of}
use Rattle.lexical_write_integer.specs.Groups.{grouped}

-- the characters of the digits of a number below 2 ^ 64
abbrev pub digits_text : ℕ → ℕ → List ℕ
digits_text r number = digits_onto (min 64 (number + 1)) r true number []

-- the text of a number whose magnitude is below 2 ^ 64
abbrev pub text_of : ℤ → Format → List ℕ
text_of number format =
    sign_of number format.required_mantissa_sign
    ++ grouped format.digit_grouping (digits_text format.mantissa_radix (unsigned_abs number))

-- the characters of a number below the radix to the power of the width, with leading zeros
abbrev pub padded_text : ℕ → ℕ → ℕ → List ℕ
padded_text r zero number = []
padded_text r (suc width) number = padded_text r width (number / r) ++ digit_char (number % r) ∷ []
