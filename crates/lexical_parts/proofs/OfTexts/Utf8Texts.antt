-- The texts of parts are UTF-8.
use Rattle.std.proofs.Common.{Bool, true, ℕ, zero, suc, ◌<◌, ◌≤◌, List, [], ◌∷◌, false, replicate, arith, rules, ℤ, pos}
use Rattle.std.proofs.Common.{negsuc}
use Rattle.std.specs.List.{All}
use Rattle.std.specs.Option.{ForSome}
use Rattle.std.specs.Str.{IsUtf8}
use Rattle.std.proofs.lemmas.List.Elements.{All-head, All-tail, All-replicate}
use Rattle.std.proofs.lemmas.Str.{IsUtf8-nil, IsUtf8-from_ascii, IsUtf8-append}
use Rattle.std.proofs.lemmas.Str.Ascii.{IsAscii-from_all}
use Rattle.lexical_num.specs.Format.{Format, IsGrouping, standard}
use Rattle.lexical_num.specs.Sign.{sign_of}
use Rattle.lexical_write_integer.specs.Padded.{IsPadded}
use Rattle.lexical_write_integer.specs.Sequence.{IsExactly, Then, AreJoined}
use Rattle.lexical_write_integer.specs.Text.{IsDigits, IsText}
use Rattle.lexical_write_integer.proofs.OfTexts.Ascii.{IsAscii-IsText, IsAscii-digit_chars}
use Rattle.lexical_parts.specs.Column.{IsAtLeft, IsAtRight, IsCentered}
use Rattle.lexical_parts.specs.Fixed.{IsFraction, IsUnits}
use Rattle.lexical_parts.specs.Scientific.{IsScientificUnsigned}
use Rattle.lexical_parts.specs.Trimmed.{IsTrimmedUnits}
use Rattle.lexical_parts.specs.Utf8.{AreUtf8}

-- a byte below 128
pub one_is_utf8 : (byte : ℕ) → byte < 128 → AreUtf8 (IsExactly (byte ∷ []))
one_is_utf8 byte small = grind (arith, IsUtf8-from_ascii)

-- the digits of a number in a radix of at most 36 are UTF-8
pub digits_are_utf8 : (r number : ℕ) → r ≤ 36 → AreUtf8 (IsDigits r number)
digits_are_utf8 r number few = grind (arith, IsUtf8-from_ascii, IsAscii-digit_chars)

-- digits with leading zeros, in a radix of at most 36
pub padded_is_utf8 : (r width number : ℕ) → r ≤ 36 → AreUtf8 (IsPadded r width number)
padded_is_utf8 r width number few = grind (arith, IsUtf8-from_ascii, IsAscii-digit_chars)

-- the text of a number in a radix up to 36 is UTF-8, if the separator of its groups is valid
pub text_is_utf8 : (number : ℤ) (format : Format) → format.mantissa_radix ≤ 36
    → ForSome format.digit_grouping IsGrouping → AreUtf8 (IsText number format)
text_is_utf8 number format few groups =
    record { each = λ text is. IsUtf8-from_ascii text (IsAscii-IsText number format text few groups is) }

-- the text of a number in decimal without groups, whether or not a sign is required
pub decimal_is_utf8 : (number : ℤ) (required : Bool)
    → AreUtf8 (IsText number (record standard { required_mantissa_sign = required }))
decimal_is_utf8 number required = text_is_utf8 number _ (omega arith) (λ grouping none. search rules)

-- two texts in a row
pub then_is_utf8 : {First Second : List ℕ → Type 0} → AreUtf8 First → AreUtf8 Second → AreUtf8 (Then First Second)
then_is_utf8 first second = record {
  each = λ text is. rw is.whole (IsUtf8-append is.first is.second (first.each is.first is.is_first)
      (second.each is.second is.is_second));
}

-- joined texts, if the text of each element and the separator are UTF-8
pub joined_is_utf8 : {A : Type 0} (IsOf : A → List ℕ → Type 0) (separator : List ℕ) (xs : List A) →
    All (λ x. AreUtf8 (IsOf x)) xs → AreUtf8 (IsExactly separator) → AreUtf8 (AreJoined IsOf separator xs)
joined_is_utf8 IsOf separator [] each between = record { each = λ text is. rw is IsUtf8-nil }
joined_is_utf8 IsOf separator (x ∷ []) each between = All-head (λ y. AreUtf8 (IsOf y)) x [] each
joined_is_utf8 IsOf separator (x ∷ y ∷ xs) each between =
    let first = All-head (λ y. AreUtf8 (IsOf y)) x (y ∷ xs) each in
    let rest = joined_is_utf8 IsOf separator (y ∷ xs) (All-tail (λ y. AreUtf8 (IsOf y)) x (y ∷ xs) each) between in
    then_is_utf8 first (then_is_utf8 between rest)

-- copies of a byte below 128
pub fill_is_utf8 : (fill count : ℕ) → fill < 128 → IsUtf8 (replicate count fill)
fill_is_utf8 fill count small = search (arith, IsUtf8-from_ascii, IsAscii-from_all, All-replicate)

-- a text at the left of a column that is filled with a byte below 128
pub at_left_is_utf8 : {Is : List ℕ → Type 0} (width fill : ℕ) → fill < 128 → AreUtf8 Is
    → AreUtf8 (IsAtLeft width fill Is)
at_left_is_utf8 width fill small cells = record {
  each = λ text is. rw is.whole (search (IsUtf8-append, fill_is_utf8, small, cells.each is.cell is.is));
}

-- a text at the right of a column
pub at_right_is_utf8 : {Is : List ℕ → Type 0} (width fill : ℕ) → fill < 128 → AreUtf8 Is
    → AreUtf8 (IsAtRight width fill Is)
at_right_is_utf8 width fill small cells = record {
  each = λ text is. rw is.whole (search (IsUtf8-append, fill_is_utf8, small, cells.each is.cell is.is));
}

-- a text in the middle of a column
pub centered_is_utf8 : {Is : List ℕ → Type 0} (width fill : ℕ) → fill < 128 → AreUtf8 Is
    → AreUtf8 (IsCentered width fill Is)
centered_is_utf8 width fill small cells = record {
  each = λ text is. rw is.whole (search (IsUtf8-append, fill_is_utf8, small, cells.each is.cell is.is));
}

-- the sign of a number
pub sign_is_utf8 : (number : ℤ) (required : Bool) → AreUtf8 (IsExactly (sign_of number required))
sign_is_utf8 (pos n) false = record { each = λ text is. rw is IsUtf8-nil }
sign_is_utf8 (pos n) true = one_is_utf8 43 (omega arith)
sign_is_utf8 (negsuc n) required = one_is_utf8 45 (omega arith)

-- the point and the decimals of a number of units
pub fraction_is_utf8 : (decimals units : ℕ) → AreUtf8 (IsFraction decimals units)
fraction_is_utf8 zero units = record { each = λ text is. rw is IsUtf8-nil }
fraction_is_utf8 (suc decimals) units =
    then_is_utf8 (one_is_utf8 46 (omega arith)) (padded_is_utf8 10 (suc decimals) units (omega arith))

-- every text of a number of units without its sign, with a point before its decimals if it has any, is UTF-8
units_are_utf8 : (decimals units : ℕ) → AreUtf8 (IsUnits decimals units)
units_are_utf8 decimals units = then_is_utf8 (digits_are_utf8 10 _ (omega arith)) (fraction_is_utf8 decimals _)

-- a number of units without its sign and without zeros at the end of its fraction
pub trimmed_is_utf8 : (decimals units : ℕ) → AreUtf8 (IsTrimmedUnits decimals units)
trimmed_is_utf8 decimals units = record { each = λ text is. (units_are_utf8 _ _).each text is.is }

-- a natural number in scientific notation
pub scientific_is_utf8 : (number : ℕ) (exponent : ℤ) → AreUtf8 (IsScientificUnsigned number exponent)
scientific_is_utf8 number exponent = record {
  each = λ text is.
      (then_is_utf8 (units_are_utf8 _ _) (then_is_utf8 (one_is_utf8 101 (omega arith)) (decimal_is_utf8 _ false))).each
      text is.is;
}

-- what the check uses for the texts of parts
pub ruleset kinds = (
  one_is_utf8,
  digits_are_utf8,
  padded_is_utf8,
  text_is_utf8,
  decimal_is_utf8,
  then_is_utf8,
  at_left_is_utf8,
  at_right_is_utf8,
  centered_is_utf8,
  sign_is_utf8,
  fraction_is_utf8,
  trimmed_is_utf8,
  scientific_is_utf8,
)
