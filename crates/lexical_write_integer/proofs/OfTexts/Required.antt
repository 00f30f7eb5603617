-- How long a text is, and how long a buffer it requires at most.
use Rattle.std.proofs.Common.{◌≡◌, Option, ℕ, ◌+◌, ◌^◌, ◌<◌, ◌≤◌, ◌≤ℤ◌, ◌==◌, List, length, ℤ, unsigned_abs}
use Rattle.std.proofs.Common.{length-append, arith}
use Rattle.std.specs.Option.{ForSome}
use Rattle.std.proofs.lemmas.Bool.{cond_both, eqb-true}
use Rattle.lexical_num.specs.DecimalWidth.{IsDecimalWidth}
use Rattle.lexical_num.specs.Format.{Format, IsGrouping, grouped_length}
use Rattle.lexical_num.specs.Sign.{sign_of}
use Rattle.lexical_write_integer.specs.DigitCount.{digit_count-le, digit_count}
use Rattle.lexical_write_integer.specs.Groups.{grouped}
use Rattle.lexical_write_integer.specs.Text.{IsText, digits_need, need}
use Rattle.lexical_write_integer.proofs.OfDigits.Count.DigitCounts.{digit_count-pos}
use Rattle.lexical_write_integer.proofs.OfTexts.Grouping.Digits.{length-in_groups}
use Rattle.lexical_write_integer.proofs.OfDigits.Numerals.{length-IsDigits}

-- ---- the length of a text

-- digits in the groups of a format, if it has any, take a byte for each digit and one for the separator before each
-- group but the first, if the groups are valid
length-grouped : (grouping : Option (ℕ × ℕ)) (digits : List ℕ)
    → ForSome grouping IsGrouping → length (grouped grouping digits) ≡ grouped_length grouping (length digits)
length-grouped grouping digits good = grind (arith, length-in_groups)

-- the sign, the digits, and the separators between their groups
pub length-IsText : (x : ℤ) (format : Format) (text : List ℕ) → 2 ≤ format.mantissa_radix
    → ForSome format.digit_grouping IsGrouping → IsText x format text
    → length text ≡ length (sign_of x format.required_mantissa_sign)
    + grouped_length format.digit_grouping (digit_count format.mantissa_radix (unsigned_abs x))
length-IsText x format text two good is = grind (arith, length-grouped, length-IsDigits, length-append)

-- ---- the required length

-- the required length has room for the digits
digit_count-le_need : (r n width : ℕ) → 1 ≤ width → n < 10 ^ width → digit_count r n ≤ digits_need r n width
digit_count-le_need r n width some fits =
    cond_both (r == 10) width (digit_count r n) (λ k. digit_count r n ≤ k)
    (λ e. digit_count-le r n width some (rw (eqb-true r 10 e) fits))
    (λ _. omega arith)

-- the required length has room for the sign, the digits and the separators between their groups
pub grouped_length-le_need : {x least greatest : ℤ} (format : Format) {width count : ℕ}
    → IsDecimalWidth least greatest width → least ≤ℤ x → x ≤ℤ greatest
    → count ≡ digit_count format.mantissa_radix (unsigned_abs x)
    → length (sign_of x format.required_mantissa_sign) + grouped_length format.digit_grouping count
    ≤ need x width format
grouped_length-le_need {x} format {width} {count} decimal low high counted = grind (arith, digit_count-le_need)

-- the digits with their separators are at least as long as the digits
grouped_length-ge : (grouping : Option (ℕ × ℕ)) (n : ℕ) → n ≤ grouped_length grouping n
grouped_length-ge grouping n = grind arith

-- a text has at least one byte
pub need-pos : (x : ℤ) (width : ℕ) (format : Format) → 1 ≤ width → 1 ≤ need x width format
need-pos x width format some = grind (arith, digit_count-pos, grouped_length-ge)
