-- Digits without the zeros at their end, with a point after the first, and the exponent of the first.
use Rattle.std.proofs.Common.{◌≡◌, ◌≢◌, ℕ, ◌+◌, ◌-◌, ◌*◌, ◌/◌, ◌%◌, ◌^◌, ◌<◌, ◌≤◌, List, [], ◌∷◌, length, take, drop}
use Rattle.std.proofs.Common.{get_or, replicate, refl, sym}
use Rattle.std.proofs.Common.{ap, ◌∙◌, inl, inr, ℤ, pos, arith}
use Rattle.std.specs.Prelude.{◌+ℤ◌}
use Rattle.std.proofs.lemmas.Bool.{cases_lt}
use Rattle.std.proofs.lemmas.Bool.Decides.{eqb_tells}
use Rattle.std.proofs.lemmas.List.{length-drop, length-take-le, take_all}
use Rattle.lexical_write_integer.specs.Buffer.{Writes}
use Rattle.lexical_write_integer.specs.DigitCount.{digit_count}
use Rattle.lexical_write_integer.specs.Sequence.{IsExactly}
use Rattle.lexical_write_integer.specs.Text.{IsDigits}
use Rattle.lexical_write_integer.proofs.OfDigits.Count.DigitCounts.{digit_count-fits, digit_count-one}
use Rattle.lexical_write_integer.proofs.OfDigits.Numerals.{digits_unique, length-IsDigits}
use Rattle.lexical_write_integer.proofs.OfDigits.PaddedDigits.{IsPadded-digits}
use Rattle.lexical_write_integer.proofs.OfTexts.ComputedTexts.{digits_computed}
use Rattle.lexical_parts.specs.Fixed.{IsUnits}
use Rattle.lexical_parts.specs.Scientific.{IsScientificUnsigned, exponent_of_first}
use Rattle.lexical_parts.specs.Sequence.{◌then◌, IsStr, IsDecimal}
use Rattle.lexical_parts.proofs.OfTexts.Conversions.{then_as, written_as}
use Rattle.lexical_parts.proofs.OfNumbers.Points.{IsFraction-point, digits_around_point}
use Rattle.lexical_parts.proofs.OfNumbers.TrailingZeros.{zeros_left_out}

-- ---- zeros at the end

-- the digits that are left without `zeros` zeros at the end
pub record AreLeftDigits (number zeros : ℕ) (text : List ℕ) : Type 0 where
  pub units : ℕ
  pub is : IsDigits 10 units text
  pub whole : number ≡ units * 10 ^ zeros
  pub shortest : units % 10 ≡ 0 → (units ≡ 0) × (zeros ≡ 0)

-- if only zeros follow the first digits, and these, if more than one, do not end with a zero, they are left
pub zeros_left_out_of_digits : (number count : ℕ) (text : List ℕ) → IsDigits 10 number text → 1 ≤ count
    → count ≤ length text
    → drop count text ≡ replicate (length text - count) 48 → (1 < count → get_or text (count - 1) 0 ≢ 48)
    → AreLeftDigits number (length text - count) (take count text)
zeros_left_out_of_digits number count text is some within ends last =
    let zeros = length text - count in
    let total : length text ≡ digit_count 10 number = length-IsDigits 10 number text (omega arith) is in
    let padded = IsPadded-digits 10 number 0 (count + zeros) text (omega arith) (omega (arith, total)) is in
    let left = zeros_left_out count zeros number text padded ends in
    let around = digits_around_point number zeros 0 (length text) count text is refl (omega arith) (omega arith) in
    record {
      units = number / 10 ^ zeros;
      is = around.0;
      whole = left.whole;
      shortest = λ (zero : number / 10 ^ zeros % 10 ≡ 0).
          elim (cases_lt 1 count) as (λ _. (number / 10 ^ zeros ≡ 0) × (zeros ≡ 0)) [
            | inl more ↦ absurd (left.last some (last more) zero)
            | inr one ↦
                let single : count ≡ 1 = omega arith in
                let counted : count ≡ digit_count 10 (number / 10 ^ zeros) =
                sym (length-take-le count text within)
                ∙ length-IsDigits 10 _ (take count text) (omega arith) around.0 in
                let small : number / 10 ^ zeros < 10 =
                rw (sym counted ∙ single) at (digit_count-fits 10 (number / 10 ^ zeros) (omega arith)) in
                let nothing : number / 10 ^ zeros ≡ 0 = omega arith in
                let product : number ≡ 0 * 10 ^ zeros = left.whole ∙ ap (λ k. k * 10 ^ zeros) nothing in
                let empty : number ≡ 0 = omega (arith, product) in
                let short : length text ≡ 1 = total ∙ digit_count-one 10 number (omega arith) (omega arith) in
                (nothing, omega arith)
          ];
    }

-- ---- the point

-- a tuple of the first digit, a point and the others
pub pointed : (units : ℕ) (digits : List ℕ) → IsDigits 10 units digits → 2 ≤ length digits → (text : List ℕ)
    → (IsExactly (take 1 digits) then IsStr "." then IsExactly (take (length digits - 1) (drop 1 digits))) text
    → IsUnits (length digits - 1) units text
pointed units digits is more =
    let both = digits_around_point units (length digits - 1) 0 (length digits) 1 digits is refl (omega arith)
    (omega arith) in
    let all : take (length digits - 1) (drop 1 digits) ≡ drop 1 digits =
    take_all _ _ (omega (arith, length-drop 1 digits)) in
    then_as (λ first same. rw same both.0) (IsFraction-point _ _ _ (omega arith) (rw all both.1))

-- ---- the exponent

-- the digits of 0 in decimal are the character `0` alone
zero_digits : IsDigits 10 0 (48 ∷ [])
zero_digits = (digits_computed 10 0 (48 ∷ []) (omega arith) (omega arith)).1 refl

-- for a number other than 0, the exponent of the first digit is the exponent plus the number of digits after it
pub exponent_of_digits : (number : ℕ) (exponent : ℤ) (text : List ℕ) → IsDigits 10 number text → (text ≡ 48 ∷ [] → ⊥)
    → exponent_of_first number exponent ≡ exponent +ℤ pos (length text - 1)
exponent_of_digits number exponent text is other = grind (arith, length-IsDigits, eqb_tells, digits_unique, zero_digits)

-- ---- the whole text

-- the digits that are left, with their point, `e` and the exponent of the first are the text of the number
pub written_scientific : {number : ℕ} {exponent first : ℤ} {kept total : ℕ} {digits before after : List ℕ}
    → IsDigits 10 number digits → 1 ≤ kept → kept ≤ length digits
    → drop kept digits ≡ replicate (length digits - kept) 48 → (1 < kept → get_or digits (kept - 1) 0 ≢ 48)
    → first ≡ exponent_of_first number exponent
    → ((units : ℕ) → IsDigits 10 units (take kept digits)
    → Writes (IsUnits (length (take kept digits) - 1) units then IsStr "e" then IsDecimal first) before after total)
    → Writes (IsScientificUnsigned number exponent) before after total
written_scientific {number} {exponent} {first} {kept} {total} {digits} is some within ends last is_first written =
    let left = zeros_left_out_of_digits number kept digits is some within ends last in
    let long : length (take kept digits) ≡ digit_count 10 left.units =
    length-IsDigits 10 left.units (take kept digits) (omega arith) left.is in
    written_as
    (λ text parts. record {
      units = left.units;
      zeros = length digits - kept;
      whole = left.whole;
      shortest = left.shortest;
      is = rw (long, is_first) at parts;
    })
    (written left.units left.is)
