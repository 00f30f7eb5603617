-- Digits before a number with leading zeros, which are the digits of one number.
use Rattle.std.proofs.Common.{◌≡◌, ℕ, ◌+◌, ◌*◌, ◌^◌, ◌<◌, List, ◌++◌, map, sym, ap, ◌∙◌}
use Rattle.std.proofs.lemmas.List.{map-append}
use Rattle.lexical_num.specs.Digit.{digit_char}
use Rattle.lexical_write_integer.specs.Padded.{IsPadded}
use Rattle.lexical_write_integer.specs.Sequence.{Then}
use Rattle.lexical_write_integer.specs.Text.{IsDigits}
use Rattle.lexical_write_integer.proofs.OfDigits.Numerals.{IsNumeralOf-append}

-- the characters of two lists of digits in a row are those of all the digits
pub characters_of : (text first second : List ℕ) (xs ys : List ℕ) → text ≡ first ++ second → first ≡ map digit_char xs
    → second ≡ map digit_char ys
    → text ≡ map digit_char (xs ++ ys)
characters_of text first second xs ys whole one other =
    whole ∙ ap (λ t. t ++ second) one ∙ ap (λ t. map digit_char xs ++ t) other ∙ sym (map-append digit_char xs ys)

-- the digits of a number above 0, and then a number in a width, are the digits of one number
pub digits_then_padded : (r high width low : ℕ) (text : List ℕ) → 0 < high
    → Then (IsDigits r high) (IsPadded r width low) text
    → IsDigits r (high * r ^ width + low) text
digits_then_padded r high width low text some is = record {
  digits = is.is_first.digits ++ is.is_second.digits;
  numeral = IsNumeralOf-append some is.is_first.numeral is.is_second.block;
  characters = characters_of _ _ _ _ _ is.whole is.is_first.characters is.is_second.characters;
}
