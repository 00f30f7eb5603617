-- The text of a number in groups: the positions of its digits and separators.
use Rattle.std.proofs.lemmas.Nat.{le-div}
use Rattle.std.proofs.Common.{◌≡◌, Some, ℕ, ◌+◌, ◌-◌, ◌*◌, ◌/◌, ◌<◌, ◌≤◌, List, ◌++◌, length, sym, ap, ◌∙◌, arith, ℤ}
use Rattle.std.proofs.Common.{unsigned_abs}
use Rattle.lexical_num.specs.Format.{Format, without_groups}
use Rattle.lexical_num.specs.Sign.{sign_of}
use Rattle.lexical_write_integer.specs.DigitCount.{digit_count}
use Rattle.lexical_write_integer.specs.Groups.{in_groups, grouped, from_right}
use Rattle.lexical_write_integer.specs.Text.{IsText}
use Rattle.lexical_write_integer.proofs.OfTexts.Grouping.Digits.{in_groups-one, length-in_groups}
use Rattle.lexical_write_integer.proofs.OfDigits.Numerals.{digits_unique, length-IsDigits}
use Rattle.lexical_write_integer.proofs.OfTexts.Grouping.Positions.{digit-from_right, from_right-append}
use Rattle.lexical_write_integer.proofs.OfTexts.Grouping.Positions.{mark-from_right}
use Rattle.lexical_write_integer.proofs.OfDigits.Powers.{div-monotone}

-- the number of digits of the magnitude
abbrev count_of : ℤ → Format → ℕ
count_of x format = digit_count format.mantissa_radix (unsigned_abs x)

-- the text of a number in a format with groups is its sign, and then the digits of its magnitude in these groups
IsText-in_groups : (x : ℤ) (format : Format) (grouping : ℕ × ℕ) (text : List ℕ)
    → format.digit_grouping ≡ Some grouping → (is : IsText x format text)
    → text ≡ sign_of x format.required_mantissa_sign ++ in_groups grouping is.digits
IsText-in_groups x format grouping text groups is = is.whole
    ∙ ap (λ g. sign_of x format.required_mantissa_sign ++ grouped g is.digits) groups

-- the text of a number has as many digits as the digit count of its magnitude says, in a radix of at least 2
length-of_digits : (x : ℤ) (format : Format) (text : List ℕ) → 2 ≤ format.mantissa_radix → (is : IsText x format text)
    → length is.digits ≡ count_of x format
length-of_digits x format text two is =
    length-IsDigits format.mantissa_radix (unsigned_abs x) is.digits two is.magnitude

-- the digits of a text in groups of at least one digit take a byte for each digit, and one for each group but the first
length-of_groups : (x : ℤ) (format : Format) (grouping : ℕ × ℕ) (text : List ℕ)
    → 2 ≤ format.mantissa_radix → 0 < grouping.0 → (is : IsText x format text)
    → length (in_groups grouping is.digits) ≡ count_of x format + (count_of x format - 1) / grouping.0
length-of_groups x format grouping text two some is = length-in_groups grouping is.digits some
    ∙ ap (λ n. n + (n - 1) / grouping.0) (length-of_digits x format text two is)

-- a single group has no separator
pub IsText-one_group : (x : ℤ) (format : Format) (grouping : ℕ × ℕ) (text : List ℕ)
    → 2 ≤ format.mantissa_radix → format.digit_grouping ≡ Some grouping → IsText x format text
    → count_of x format ≤ grouping.0
    → IsText x (without_groups format) text
IsText-one_group x format grouping text two groups is few =
    let one = in_groups-one grouping is.digits (omega (arith, length-of_digits x format text two is)) in
    grind arith

-- for each whole group to its right, a digit has one byte more there than without groups
pub digit-in_text : (x : ℤ) (format : Format) (grouping : ℕ × ℕ) (text plain : List ℕ) (right : ℕ)
    → 2 ≤ format.mantissa_radix → 0 < grouping.0 → format.digit_grouping ≡ Some grouping → IsText x format text
    → IsText x (without_groups format) plain → right < count_of x format
    → from_right text (right + right / grouping.0) ≡ from_right plain right
digit-in_text x format grouping text plain right two some groups is bare inside =
    let sign = sign_of x format.required_mantissa_sign in
    let same = digits_unique format.mantissa_radix (unsigned_abs x)
    bare.digits is.digits two bare.magnitude is.magnitude in
    let room = length-of_digits x format text two is in
    let marks = div-monotone right (count_of x format - 1) grouping.0 (omega arith) in
    ap (λ t. from_right t (right + right / grouping.0)) (IsText-in_groups x format grouping text groups is)
    ∙ from_right-append sign (in_groups grouping is.digits) (right + right / grouping.0)
    (omega (arith, length-of_groups x format grouping text two some is, marks))
    ∙ digit-from_right grouping is.digits right some (omega (arith, room))
    ∙ sym (from_right-append sign is.digits right (omega (arith, room)))
    ∙ sym (ap (λ t. from_right t right) (bare.whole ∙ ap (λ digits. sign ++ digits) same))

-- before any number of whole groups, if further digits precede them, is a separator
pub mark-in_text : (x : ℤ) (format : Format) (grouping : ℕ × ℕ) (text : List ℕ) (groups : ℕ)
    → 2 ≤ format.mantissa_radix → 0 < grouping.0 → format.digit_grouping ≡ Some grouping
    → IsText x format text → 1 ≤ groups
    → groups * grouping.0 < count_of x format → from_right text (groups * grouping.0 + groups - 1) ≡ grouping.1
mark-in_text x format grouping text groups two some grouping_is is any inside =
    let room = length-of_digits x format text two is in
    ap (λ t. from_right t (groups * grouping.0 + groups - 1)) (IsText-in_groups x format grouping text grouping_is is)
    ∙ from_right-append (sign_of x format.required_mantissa_sign) (in_groups grouping is.digits)
    (groups * grouping.0 + groups - 1)
    (omega (
      arith,
      length-of_groups x format grouping text two some is,
      le-div groups (count_of x format - 1) grouping.0 some (omega arith),
    ))
    ∙ mark-from_right grouping is.digits groups some any (omega (arith, room))
