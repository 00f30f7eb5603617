-- The text of a number of units is what the prover computes.
use Rattle.std.proofs.Common.{◌≡◌, ℕ, zero, suc, ◌-◌, ◌*◌, ◌/◌, ◌%◌, ◌^◌, ◌<◌, ◌≤◌, ◌==◌, List, refl, sym, ap, ◌∙◌}
use Rattle.std.proofs.Common.{arith, true}
use Rattle.std.proofs.Common.{Option, None, ℤ, unsigned_abs}
use Rattle.std.proofs.Math.Nat.{mod-lt, one-le-pow, pow-suc, div-le_self, le-mul_of_pos_right, mul_assoc}
use Rattle.std.proofs.lemmas.Bool.{cond-true}
use Rattle.lexical_parts.specs.Fixed.{IsFixed, IsFraction, IsGroupedFixed, IsUnits, fraction_text, fixed_text}
use Rattle.lexical_parts.specs.Fixed.{units_text}
use Rattle.lexical_parts.specs.Length.{IsOnly}
use Rattle.lexical_parts.specs.Trimmed.{IsTrimmedFixed, IsTrimmedUnits, trimmed_text, trimmed_units_text}
use Rattle.lexical_parts.proofs.OfTexts.Conversions.{IsDigits-as_text, then_as}
use Rattle.lexical_parts.proofs.Equations.{only_digits, only_exactly, only_padded, only_text, only_then}

-- a fraction, of fewer units than make one whole, has one text, the computed one
pub only_fraction : (decimals units : ℕ) → units < 10 ^ decimals
    → IsOnly (IsFraction decimals units) (fraction_text decimals units)
only_fraction zero units few = only_exactly _
only_fraction (suc decimals) units few =
    only_then (only_exactly _) (only_padded 10 (suc decimals) units (omega arith) few)

-- a number of units with its whole part in groups has one text, the computed one, if its magnitude is below 2 ^ 64
pub only_grouped_fixed : (grouping : Option (ℕ × ℕ)) (decimals : ℕ) (x : ℤ) → unsigned_abs x < 2 ^ 64
    → IsOnly (IsGroupedFixed grouping decimals x) (fixed_text grouping decimals x)
only_grouped_fixed grouping decimals x small =
    let some = one-le-pow decimals 10 (omega arith) in
    let rest : unsigned_abs x % 10 ^ decimals < 10 ^ decimals = mod-lt (unsigned_abs x) some in
    let whole : unsigned_abs x / 10 ^ decimals < 2 ^ 64 =
    omega (arith, div-le_self (unsigned_abs x) (10 ^ decimals), small) in
    only_then (only_exactly _) (only_then (only_text _ _ (omega arith) whole) (only_fraction decimals _ rest))

-- a number of units without groups has one text, the computed one, if its magnitude is below 2 ^ 64
pub only_fixed : (decimals : ℕ) (x : ℤ) → unsigned_abs x < 2 ^ 64
    → IsOnly (IsFixed decimals x) (fixed_text None decimals x)
only_fixed decimals x small = record {
  only = λ text is. (only_grouped_fixed None decimals x small).only text
      (then_as (λ _ sign. sign) (then_as IsDigits-as_text (λ _ fraction. fraction)) text is);
}

-- a text of a number of units, with its whole part in groups or not, is the computed one
pub fixed_is : (grouping : Option (ℕ × ℕ)) (decimals : ℕ) (x : ℤ) (text : List ℕ) → unsigned_abs x < 2 ^ 64
    → IsGroupedFixed grouping decimals x text → text ≡ fixed_text grouping decimals x
fixed_is grouping decimals x text small is = (only_grouped_fixed grouping decimals x small).only text is

-- ---- without zeros at the end of the fraction

-- if `units` is left * 10 ^ zeros, and zeros are as many as the decimals, or fewer and `left` does not end with 0, the
-- computed text of `units` without zeros at the end of the fraction is that of `left` with decimals - zeros decimals
trimmed_as : (decimals units zeros left : ℕ) → zeros ≤ decimals → units ≡ left * 10 ^ zeros
    → (left % 10 ≡ 0 → zeros ≡ decimals)
    → trimmed_units_text decimals units ≡ units_text None (decimals - zeros) left
trimmed_as zero units none left few whole shortest = grind arith
trimmed_as (suc d) units zero left few whole shortest = grind arith
trimmed_as (suc d) units (suc z) left few whole shortest =
    let product : units ≡ left * 10 ^ z * 10 = whole ∙ ap (λ p. left * p) (pow-suc 10 z)
    ∙ sym (mul_assoc left (10 ^ z) 10) in
    let more : units % 10 ≡ 0 = omega (arith, product) in
    let rest : units / 10 ≡ left * 10 ^ z = omega (arith, product) in
    let equal : (units % 10 == 0) ≡ true = rw more refl in
    let minus : suc d - suc z ≡ d - z = omega arith in
    cond-true _ _ _ equal ∙ rw minus (trimmed_as d (units / 10) z left (omega arith) rest
    (λ none. omega (arith, shortest none)))

-- a number of units without its sign has one text, the computed one
pub only_units : (decimals units : ℕ) → units < 2 ^ 64
    → IsOnly (IsUnits decimals units) (units_text None decimals units)
only_units decimals units small =
    let some = one-le-pow decimals 10 (omega arith) in
    let rest : units % 10 ^ decimals < 10 ^ decimals = mod-lt units some in
    let whole : units / 10 ^ decimals < 2 ^ 64 = omega (arith, div-le_self units (10 ^ decimals), small) in
    only_then (only_digits 10 _ (omega arith) whole) (only_fraction decimals _ rest)

-- a number of units without its sign and without zeros at the end of its fraction has one text, the computed one
pub only_trimmed : (decimals units : ℕ) → units < 2 ^ 64
    → IsOnly (IsTrimmedUnits decimals units) (trimmed_units_text decimals units)
only_trimmed decimals units small = record {
  only = λ text is.
      let less : is.left ≤ is.left * 10 ^ is.zeros =
      le-mul_of_pos_right is.left (one-le-pow is.zeros 10 (omega arith)) in
      let below : is.left < 2 ^ 64 = omega (arith, less, is.whole, small) in
      (only_units (decimals - is.zeros) is.left below).only text is.is
      ∙ sym (trimmed_as decimals units is.zeros is.left is.few is.whole is.shortest);
}

-- a number of units with its sign and without zeros at the end of its fraction has one text, the computed one
pub only_trimmed_fixed : (decimals : ℕ) (x : ℤ) → unsigned_abs x < 2 ^ 64
    → IsOnly (IsTrimmedFixed decimals x) (trimmed_text decimals x)
only_trimmed_fixed decimals x small = only_then (only_exactly _) (only_trimmed decimals _ small)

-- a text of a number of units without zeros at the end of its fraction is the computed one
pub trimmed_is : (decimals : ℕ) (x : ℤ) (text : List ℕ) → unsigned_abs x < 2 ^ 64 → IsTrimmedFixed decimals x text
    → text ≡ trimmed_text decimals x
trimmed_is decimals x text small is = (only_trimmed_fixed decimals x small).only text is
