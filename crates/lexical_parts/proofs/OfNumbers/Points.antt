-- The digits of a number of units, before the point and after it.
use Rattle.std.proofs.Common.{◌≡◌, ℕ, zero, suc, ◌+◌, ◌-◌, ◌*◌, ◌/◌, ◌%◌, ◌^◌, ◌<◌, ◌≤◌, List, ◌++◌, length, take, drop}
use Rattle.std.proofs.Common.{replicate, refl, sym, ap, ◌∙◌, inl}
use Rattle.std.proofs.Common.{inr, arith}
use Rattle.std.proofs.Math.Nat.{pow-le-pow_right, div-add-mod', div-lt_iff_lt-mul}
use Rattle.std.proofs.lemmas.Bool.{cases_lt}
use Rattle.std.proofs.lemmas.List.{drop-map, length-drop, length-map, length-take-le, take-append-drop, take-map}
use Rattle.std.proofs.lemmas.List.Elements.{All-drop, All-take}
use Rattle.std.proofs.lemmas.Nat.{div-mul-add, mod-mul-add}
use Rattle.lexical_num.specs.Digit.{digit_char}
use Rattle.lexical_write_integer.specs.DigitCount.{digit_count}
use Rattle.lexical_write_integer.specs.Numeral.{IsBlockOf, value_of}
use Rattle.lexical_write_integer.specs.Padded.{IsPadded}
use Rattle.lexical_write_integer.specs.Sequence.{IsExactly}
use Rattle.lexical_write_integer.specs.Text.{IsDigits}
use Rattle.lexical_parts.specs.Fixed.{IsFraction}
use Rattle.lexical_parts.specs.Sequence.{◌then◌, IsStr}
use Rattle.lexical_parts.proofs.OfTexts.Conversions.{then_as}
use Rattle.lexical_write_integer.proofs.OfDigits.Count.DigitCounts.{digit_count-fits, digit_count-left, digit_count-one}
use Rattle.lexical_write_integer.proofs.OfDigits.DigitValues.{value_of-append, value_of-lt}
use Rattle.lexical_write_integer.proofs.OfDigits.Numerals.{IsBlockOf-append, IsNumeralOf-block, length-IsDigits}
use Rattle.lexical_write_integer.proofs.OfDigits.PaddedDigits.{IsPadded-digits}
use Rattle.lexical_write_integer.proofs.OfTexts.Appended.{characters_of}

-- the first digits of a block are one of the quotient, and the others are one of the remainder
IsBlockOf-split : (r whole count n : ℕ) (digits : List ℕ) → IsBlockOf r (whole + count) n digits
    → IsBlockOf r whole (n / r ^ count) (take whole digits) × IsBlockOf r count (n % r ^ count) (drop whole digits)
IsBlockOf-split r whole count n digits b =
    let front = take whole digits in
    let back = drop whole digits in
    let long : length back ≡ count = omega (arith, length-drop whole digits, b.counted) in
    let below = All-drop (λ d. d < r) whole digits b.below_radix in
    let less : value_of r back < r ^ count = rw long at (value_of-lt r back below) in
    let sum : n ≡ value_of r front * r ^ count + value_of r back =
    sym b.value ∙ ap (value_of r) (sym (take-append-drop whole digits)) ∙ value_of-append r front back
    ∙ ap (λ k. value_of r front * r ^ k + value_of r back) long in (
      record {
        counted = length-take-le whole digits (omega (arith, b.counted));
        below_radix = All-take (λ d. d < r) whole digits b.below_radix;
        value = sym (ap (λ k. k / r ^ count) sum ∙ div-mul-add (value_of r front) (r ^ count) (value_of r back) less);
      },
      record {
        counted = long;
        below_radix = below;
        value = sym (ap (λ k. k % r ^ count) sum ∙ mod-mul-add (value_of r front) (r ^ count) (value_of r back) less);
      },
    )

-- the first characters of a padded number are those of the quotient, and the others those of the remainder
pub IsPadded-split : (r whole count n : ℕ) (text : List ℕ) → IsPadded r (whole + count) n text
    → IsPadded r whole (n / r ^ count) (take whole text) × IsPadded r count (n % r ^ count) (drop whole text)
IsPadded-split r whole count n text is =
    let both = IsBlockOf-split r whole count n is.digits is.block in (
      record {
        digits = take whole is.digits;
        block = both.0;
        characters = ap (take whole) is.characters ∙ take-map digit_char whole is.digits;
      },
      record {
        digits = drop whole is.digits;
        block = both.1;
        characters = ap (drop whole) is.characters ∙ drop-map digit_char whole is.digits;
      },
    )

-- how many digits the whole part has, with zeros before the digits if there are too few
whole_count : (n decimals added count whole : ℕ) → count ≡ digit_count 10 n → added ≡ (decimals + 1) - count
    → whole + decimals ≡ added + count → digit_count 10 (n / 10 ^ decimals) ≡ whole
whole_count n decimals added count whole counted is_zeros is_whole =
    elim (cases_lt decimals count) [
      | inl more ↦ omega (arith, digit_count-left 10 n decimals (n / 10 ^ decimals) (omega arith) (omega arith) refl)
      | inr few ↦
          let power = pow-le-pow_right {n = 10} (omega arith) {i = count} {j = decimals} (omega arith) in
          let below : n < 10 ^ count = rw counted (digit_count-fits 10 n (omega arith)) in
          let small : n / 10 ^ decimals < 10 =
          (div-lt_iff_lt-mul {k = 10 ^ decimals} {x = n} {y = 10} (omega arith)).1 (omega (arith, below, power)) in
          omega (arith, digit_count-one 10 (n / 10 ^ decimals) (omega arith) small)
    ]

-- the digits before the point and those after it
pub digits_around_point : (n decimals added count whole : ℕ) (text : List ℕ) → IsDigits 10 n text → count ≡ length text
    → added ≡ (decimals + 1) - count → whole + decimals ≡ added + count
    → IsDigits 10 (n / 10 ^ decimals) (take whole (replicate added 48 ++ text))
    × IsPadded 10 decimals (n % 10 ^ decimals) (drop whole (replicate added 48 ++ text))
digits_around_point n decimals added count whole text is counted is_zeros is_whole =
    let two : 2 ≤ 10 = omega arith in
    let long : count ≡ digit_count 10 n = counted ∙ length-IsDigits 10 n text two is in
    let padded = IsPadded-digits 10 n added (whole + decimals) text two (omega (arith, long)) is in
    let both = IsPadded-split 10 whole decimals n _ padded in (
      record {
        digits = both.0.digits;
        numeral = IsNumeralOf-block 10 (n / 10 ^ decimals) whole both.0.digits two
            (whole_count n decimals added count whole long is_zeros is_whole) both.0.block;
        characters = both.0.characters;
      },
      both.1,
    )

-- the digits around the point are together the digits of the number, with zeros before them
pub padded_around_point : {n decimals : ℕ} {whole rest : List ℕ} → IsDigits 10 (n / 10 ^ decimals) whole
    → IsPadded 10 decimals (n % 10 ^ decimals) rest
    → IsPadded 10 (length whole + decimals) n (whole ++ rest)
padded_around_point {n} {decimals} {whole} {rest} first second =
    let long : length first.digits ≡ length whole =
    sym (ap length first.characters ∙ length-map first.digits digit_char) in
    let high : IsBlockOf 10 (length whole) (n / 10 ^ decimals) first.digits =
    record { counted = long; below_radix = first.numeral.numeral.below_radix; value = first.numeral.value } in
    record {
      digits = first.digits ++ second.digits;
      block = rw (div-add-mod' n (10 ^ decimals)) at (IsBlockOf-append high second.block);
      characters = characters_of _ whole rest _ _ refl first.characters second.characters;
    }

-- ---- the point

-- a point and digits after it are a fraction, if there are such digits
pub IsFraction-point : (decimals units : ℕ) (digits : List ℕ) → 1 ≤ decimals → IsPadded 10 decimals units digits
    → (text : List ℕ) → (IsStr "." then IsExactly digits) text → IsFraction decimals units text
IsFraction-point zero units digits some padded text is = absurd (omega arith)
IsFraction-point (suc decimals) units digits some padded text is =
    then_as (λ point same. same) (λ rest same. rw same padded) text is
