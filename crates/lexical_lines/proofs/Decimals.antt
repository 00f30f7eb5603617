-- Decimal digits and the bytes that represent them.
use Rattle.std.proofs.lemmas.Grind.{common_steps}
use Rattle.std.proofs.Common.{◌≡◌, ℕ, ◌+◌, ◌-◌, ◌*◌, ◌<◌, ◌≤◌, List, [], ◌∷◌, ◌++◌, length, get_or, map, take, drop}
use Rattle.std.proofs.Common.{refl, sym, ap, ◌∙◌, arith}
use Rattle.std.specs.List.{All}
use Rattle.std.proofs.lemmas.List.{take-append-drop, length-map, map-append}
use Rattle.std.proofs.lemmas.List.Elements.{All-head, All-tail, All-map}
use Rattle.std.proofs.Math.Nat.{one-le-pow, mul-le-mul_left}
use Rattle.lexical_num.specs.Digit.{digit_char}
use Rattle.lexical_write_integer.specs.Numeral.{value_of}
use Rattle.lexical_write_integer.specs.Text.{IsDigits}
use Rattle.lexical_write_integer.proofs.OfDigits.DigitValues.{value_of-append}
pub use Rattle.lexical_write_integer.proofs.OfTexts.PrintedTexts.{digit_char-decimal}
use Rattle.lexical_lines.specs.Decimal.{IsDecimalNumeral, IsDigitByte, digits_in}

-- ---- the digits read so far

-- the value of the first digits is at most the value of all digits
pub value_of-front : (text : List ℕ) (k : ℕ) → value_of 10 (digits_in (take k text)) ≤ value_of 10 (digits_in text)
value_of-front text k =
    let front = digits_in (take k text) in
    let back = digits_in (drop k text) in
    let split : digits_in text ≡ front ++ back = ap digits_in (sym (take-append-drop k text))
    ∙ map-append (λ byte. byte - 48) (take k text) (drop k text) in
    omega (
      arith,
      ap (value_of 10) split,
      value_of-append 10 front back,
      mul-le-mul_left (value_of 10 front) (one-le-pow (length back) 10 (omega arith)),
    )

-- the value of the digits up to the next one
pub value_of-more : (text : List ℕ) (i : ℕ) → i < length text → value_of 10 (digits_in (take (i + 1) text))
    ≡ value_of 10 (digits_in (take i text)) * 10 + (get_or text i 0 - 48)
value_of-more text i h = grind (arith, common_steps, value_of-append)

-- the value of the first bytes is at most the number
pub IsDecimalNumeral-at_least : (n : ℕ) (text : List ℕ) (i : ℕ) → i < length text → IsDecimalNumeral n text
    → value_of 10 (digits_in (take i text)) * 10 + (get_or text i 0 - 48) ≤ n
IsDecimalNumeral-at_least n text i h d = omega (arith, value_of-more text i h, value_of-front text (i + 1), d.value)

-- ---- digits without leading zeros

-- digits below 10 are read back from their characters: each character minus 48 is the digit again
digits_in-digit_char : (digits : List ℕ) → All (λ d. d < 10) digits → digits_in (map digit_char digits) ≡ digits
digits_in-digit_char [] h = refl
digits_in-digit_char (d ∷ digits) h =
    grind (
      arith,
      digit_char-decimal d (All-head (λ d. d < 10) d digits h),
      digits_in-digit_char digits (All-tail (λ d. d < 10) d digits h),
    )

-- the digits of a number in radix 10 are a decimal numeral of it
pub IsDecimalNumeral-from_digits : (n : ℕ) (text : List ℕ) → IsDigits 10 n text → IsDecimalNumeral n text
IsDecimalNumeral-from_digits n text h =
    let below = h.numeral.numeral.below_radix in
    record {
      nonempty = rw (h.characters, length-map) h.numeral.numeral.nonempty;
      bytes = rw h.characters (All-map IsDigitByte digit_char h.digits
          (λ k d less. grind (arith, digit_char-decimal, below k d less)));
      value = rw (h.characters, digits_in-digit_char h.digits below) h.numeral.value;
    }
