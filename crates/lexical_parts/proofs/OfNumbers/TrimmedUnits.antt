-- Numbers of units without zeros at the end of their fraction.
use Rattle.std.proofs.Common.{◌≡◌, ◌≢◌, ℕ, ◌+◌, ◌-◌, ◌/◌, ◌%◌, ◌^◌, ◌<◌, ◌≤◌, List, [], length, take, drop, get_or}
use Rattle.std.proofs.Common.{replicate, refl, sym}
use Rattle.std.proofs.Common.{ap, ◌∙◌, inl, inr, arith}
use Rattle.std.proofs.Math.Nat.{div-div-eq-div-mul}
use Rattle.std.proofs.lemmas.Bool.{cases_lt}
use Rattle.std.proofs.lemmas.List.{append-nil, drop-take, length-take-le, take-append-drop}
use Rattle.std.proofs.lemmas.Nat.{pow-add}
use Rattle.lexical_write_integer.specs.Padded.{IsPadded}
use Rattle.lexical_write_integer.specs.Sequence.{IsExactly}
use Rattle.lexical_write_integer.specs.Text.{IsDigits}
use Rattle.lexical_parts.specs.Fixed.{AreUnits, IsUnits}
use Rattle.lexical_parts.specs.Sequence.{◌then◌, IsStr}
use Rattle.lexical_parts.specs.Trimmed.{IsTrimmedUnits}
use Rattle.lexical_parts.proofs.OfTexts.Conversions.{then_as}
use Rattle.lexical_parts.proofs.OfNumbers.Points.{IsFraction-point, IsPadded-split, padded_around_point}
use Rattle.lexical_parts.proofs.OfNumbers.TrailingZeros.{zeros_left_out}

-- the digits that are left, before the point and after it, and what their text is
pub record AreTrimmed (decimals units whole few : ℕ) (digits : List ℕ) : Type 0 where
  pub left : ℕ
  pub before : IsDigits 10 (left / 10 ^ few) (take whole digits)
  pub after : IsPadded 10 few (left % 10 ^ few) (take few (drop whole digits))
  pub is : (text : List ℕ) → IsUnits few left text → IsTrimmedUnits decimals units text

-- if only zeros follow the first `few` decimals of a number of units, and the last of these decimals, if any, is not 0,
-- they and the digits before the point are those of the number without zeros at the end of its fraction
trimmed_by : {decimals units width : ℕ} {digits : List ℕ} (whole few zeros : ℕ) → AreUnits decimals units width digits
    → length digits ≡ whole + decimals → decimals ≡ few + zeros → drop (whole + few) digits ≡ replicate zeros 48
    → (1 ≤ few → get_or digits (whole + few - 1) 0 ≢ 48) → AreTrimmed decimals units whole few digits
trimmed_by {decimals} {units} {width} {digits} whole few zeros are long split ends last =
    let front : length digits - decimals ≡ whole = omega (arith, long) in
    let kept : length (take whole digits) + decimals ≡ whole + few + zeros =
    omega (arith, long, split, length-take-le whole digits (omega (arith, long))) in
    let first : IsDigits 10 (units / 10 ^ decimals) (take whole digits) = rw front at are.whole in
    let rest : IsPadded 10 decimals (units % 10 ^ decimals) (drop whole digits) = rw front at are.rest in
    let all : IsPadded 10 (whole + few + zeros) units digits =
    rw (kept, take-append-drop whole digits) at (padded_around_point first rest) in
    let left = zeros_left_out (whole + few) zeros units digits all ends in
    let units_left = units / 10 ^ zeros in
    let both = IsPadded-split 10 whole few units_left (take (whole + few) digits) left.is in
    let turned : decimals ≡ zeros + few = omega (arith, split) in
    let same : units / 10 ^ decimals ≡ units_left / 10 ^ few =
    ap (λ d. units / 10 ^ d) turned ∙ ap (λ n. units / n) (pow-add 10 zeros few)
    ∙ sym (div-div-eq-div-mul units (10 ^ zeros) (10 ^ few)) in
    let few_left : few ≡ decimals - zeros = omega (arith, split) in
    record {
      left = units_left;
      before = rw same at first;
      after = rw (drop-take whole few digits) at both.1;
      is = λ text is. record {
        left = units_left;
        zeros = zeros;
        few = omega (arith, split);
        whole = left.whole;
        shortest = λ (zero : units_left % 10 ≡ 0).
            elim (cases_lt 0 few) as (λ _. zeros ≡ decimals) [
              | inl some ↦ absurd (left.last (omega (arith, some)) (last some) zero)
              | inr none ↦ omega (arith, none, split)
            ];
        is = rw few_left at is;
      };
    }

-- the digits up to the last decimal that is not 0, or up to the point, are those that are left
pub trimmed : {decimals units width kept : ℕ} {digits : List ℕ} → AreUnits decimals units width digits
    → length digits - decimals ≤ kept
    → kept ≤ length digits → drop kept digits ≡ replicate (length digits - kept) 48
    → (length digits - decimals < kept → get_or digits (kept - 1) 0 ≢ 48)
    → AreTrimmed decimals units (length digits - decimals) (kept - (length digits - decimals)) digits
trimmed {decimals} {units} {width} {kept} {digits} are some within ends last =
    let whole = length digits - decimals in
    let same : whole + (kept - whole) ≡ kept = omega arith in
    let is_last : 1 ≤ kept - whole → get_or digits (kept - 1) 0 ≢ 48 = λ more. last (omega arith) in
    trimmed_by whole (kept - whole) (length digits - kept) are (omega (arith, are.more)) (omega (arith, are.more))
    (rw same ends) (rw same is_last)

-- the text with a point, and that without one
pub trimmed_fraction : {decimals units whole few : ℕ} {digits : List ℕ} → AreTrimmed decimals units whole few digits
    → 1 ≤ few → (text : List ℕ)
    → (IsExactly (take whole digits) then IsStr "." then IsExactly (take few (drop whole digits))) text
    → IsTrimmedUnits decimals units text
trimmed_fraction are some text is =
    are.is text (then_as (λ first same. rw same are.before) (IsFraction-point _ _ _ some are.after) text is)

-- without decimals, the whole part alone is the text
pub trimmed_whole : {decimals units whole few : ℕ} {digits : List ℕ}
    → AreTrimmed decimals units whole few digits → few ≡ 0
    → (text : List ℕ) → IsExactly (take whole digits) text → IsTrimmedUnits decimals units text
trimmed_whole {few = few} are none text is =
    are.is text (rw none (record {
      first = text;
      second = [];
      is_first = rw is (rw none at are.before);
      is_second = refl;
      whole = sym (append-nil text);
    }))
