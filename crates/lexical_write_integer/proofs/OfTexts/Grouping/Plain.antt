-- A text without the separators between its groups.
use Rattle.std.proofs.Common.{◌≡◌, ◌≢◌, Option, None, Some, Bool, not, ◌==◌, ℕ, ◌<◌, ◌≤◌, List, [], ◌∷◌, ◌++◌, length}
use Rattle.std.proofs.Common.{map, refl, ap, ◌∙◌, ℤ, arith}
use Rattle.std.specs.List.{All, filter}
use Rattle.std.specs.Option.{ForSome}
use Rattle.std.proofs.lemmas.Bool.{cond-true, ne_eqb, not_from_false}
use Rattle.std.proofs.lemmas.List.Elements.{All-head, All-tail, filter-append}
use Rattle.lexical_num.specs.Digit.{digit_char}
use Rattle.lexical_num.specs.Format.{Format, IsGrouping, IsMark, without_groups}
use Rattle.lexical_num.specs.Sign.{sign_of}
use Rattle.lexical_write_integer.specs.Groups.{mark_before, in_groups, grouped, without_separators}
use Rattle.lexical_write_integer.specs.Text.{IsText}
use Rattle.lexical_write_integer.proofs.OfTexts.Separators.{digit_chars_have_no}

-- ---- the bytes other than a separator

abbrev others : ℕ → List ℕ → List ℕ
others mark = filter (λ byte. not (byte == mark))

-- if the first byte of a text is not the separator, the text without separators is that byte and then the rest of the
-- text without separators
others-other : (mark byte : ℕ) (bytes : List ℕ) → byte ≢ mark → others mark (byte ∷ bytes) ≡ byte ∷ others mark bytes
others-other mark byte bytes other = cond-true _ _ _ (not_from_false _ (ne_eqb byte mark other))

-- nothing remains of what is between two adjacent digits in groups when the separators are left out
others-mark_before : (grouping : ℕ × ℕ) (right : ℕ) → others grouping.1 (mark_before grouping right) ≡ []
others-mark_before grouping right = grind arith

-- bytes in groups without the separators are the bytes
others-in_groups : (grouping : ℕ × ℕ) (bytes : List ℕ) → All (λ byte. byte ≢ grouping.1) bytes
    → others grouping.1 (in_groups grouping bytes) ≡ bytes
others-in_groups grouping [] other = refl
others-in_groups grouping (byte ∷ []) other =
    others-other grouping.1 byte [] (All-head (λ byte. byte ≢ grouping.1) byte [] other)
others-in_groups grouping (byte ∷ next ∷ bytes) other =
    let mark = mark_before grouping (length (next ∷ bytes)) in
    let rest = in_groups grouping (next ∷ bytes) in
    let following = others-in_groups grouping (next ∷ bytes)
    (All-tail (λ byte. byte ≢ grouping.1) byte (next ∷ bytes) other) in
    others-other grouping.1 byte (mark ++ rest) (All-head (λ byte. byte ≢ grouping.1) byte (next ∷ bytes) other)
    ∙ ap (λ bytes. byte ∷ bytes)
    (filter-append (λ byte. not (byte == grouping.1)) mark rest ∙ ap (λ bytes. bytes ++ others grouping.1 rest)
    (others-mark_before grouping (length (next ∷ bytes))) ∙ following)

-- a separator is not a sign
others-sign : (mark : ℕ) (x : ℤ) (required : Bool) (bytes : List ℕ)
    → IsMark mark → others mark (sign_of x required ++ bytes) ≡ sign_of x required ++ others mark bytes
others-sign mark x required bytes is = grind arith

-- ---- texts

-- a sign and digits in the groups of a format, without separators, are the sign and the digits, if the groups are valid
-- and the radix is at most 36
without_separators-grouped : (grouping : Option (ℕ × ℕ)) (r : ℕ) (x : ℤ) (required : Bool) (digits : List ℕ)
    → ForSome grouping IsGrouping → r ≤ 36 → All (λ d. d < r) digits
    → without_separators grouping (sign_of x required ++ grouped grouping (map digit_char digits)) ≡ sign_of x required
    ++ map digit_char digits
without_separators-grouped None r x required digits good few below = refl
without_separators-grouped (Some grouping) r x required digits good few below =
    let mark = (good grouping refl).mark in
    let other = digit_chars_have_no grouping.1 r digits few mark.no_letter_or_digit below in
    others-sign grouping.1 x required _ mark ∙ ap (λ bytes. sign_of x required ++ bytes)
    (others-in_groups grouping (map digit_char digits) other)

-- a text without its separators is the text in the same format without groups
pub IsText-without_separators : (x : ℤ) (format : Format) (text : List ℕ)
    → format.mantissa_radix ≤ 36 → ForSome format.digit_grouping IsGrouping → IsText x format text
    → IsText x (without_groups format) (without_separators format.digit_grouping text)
IsText-without_separators x format text few good p = grind (arith, without_separators-grouped)
