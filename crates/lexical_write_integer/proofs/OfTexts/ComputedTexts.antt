-- The computed text of a number is its text.
use Rattle.std.proofs.Common.{◌≡◌, ℕ, zero, suc, ◌+◌, ◌/◌, ◌%◌, ◌^◌, ◌<◌, ◌≤◌, List, [], ◌∷◌, ◌++◌, min, true, inl, inr}
use Rattle.std.proofs.Common.{refl, sym, ap, ◌∙◌, ℤ, unsigned_abs}
use Rattle.std.proofs.Common.{append_assoc, arith}
use Rattle.std.specs.Prelude.{◌↔◌}
use Rattle.std.specs.Fmt.{digits_onto}
use Rattle.std.proofs.Math.Nat.{pow-suc, pow-zero, div-add-mod', div-eq_of_lt, div-lt_iff_lt-mul, mod-lt}
use Rattle.std.proofs.Math.Nat.{pow-le-pow_left}
use Rattle.std.proofs.lemmas.Bool.{cases_eq, cases_lt, cond-true, cond-false, eq-eqb, ne_eqb}
use Rattle.std.proofs.lemmas.List.{append-nil, map-append}
use Rattle.lexical_num.specs.Digit.{digit_char}
use Rattle.lexical_num.specs.Format.{Format}
use Rattle.lexical_write_integer.specs.Computed.{digits_text, text_of}
use Rattle.lexical_write_integer.specs.Text.{IsDigits, IsText}
use Rattle.lexical_write_integer.proofs.OfTexts.Comparisons.{texts_unique}
use Rattle.lexical_write_integer.proofs.OfDigits.Powers.{lt-pow_self, pow-lt_more, pow-one}
use Rattle.lexical_write_integer.proofs.OfDigits.Numerals.{IsBlockOf-one, IsNumeralOf-split, digits_unique}
use Rattle.lexical_write_integer.proofs.OfDigits.DigitValues.{value_of-one}

-- ---- digit by digit, from the last

-- the text of a number below the radix is the character of one digit
pub IsDigits-one : (r n : ℕ) → n < r → IsDigits r n (digit_char n ∷ [])
IsDigits-one r n small = record {
  digits = n ∷ [];
  numeral = record {
    numeral = record {
      nonempty = omega arith;
      below_radix = (IsBlockOf-one r n small).below_radix;
      no_leading_zero = λ none. ap (λ d. d ∷ []) none;
    };
    value = value_of-one r n;
  };
  characters = refl;
}

-- the digits of the quotient by the radix, and then the remainder, are the digits of the number
pub IsDigits-more : (r n : ℕ) (text : List ℕ) → 2 ≤ r → r ≤ n → IsDigits r (n / r) text
    → IsDigits r n (text ++ digit_char (n % r) ∷ [])
IsDigits-more r n text two big is =
    let one = pow-one r in
    let small : n % r < r = omega arith in
    record {
      digits = is.digits ++ n % r ∷ [];
      numeral = IsNumeralOf-split r 1 n is.digits (n % r ∷ []) two (omega arith) (rw one is.numeral)
          (rw one (IsBlockOf-one r (n % r) small));
      characters = ap (λ front. front ++ digit_char (n % r) ∷ []) is.characters
          ∙ sym (map-append digit_char is.digits (n % r ∷ []));
    }

-- a list that begins with the digits of the number
record BeginsWithDigits (r n : ℕ) (after whole : List ℕ) : Type 0 where
  pub text : List ℕ
  pub is : IsDigits r n text
  pub split : whole ≡ text ++ after

-- if `places` is not 0 and a number is below the radix to that power, std puts all digits of the number before a list
-- when it puts at most `places` of them there
begins-digits_onto : (places r n : ℕ) (after : List ℕ) → 2 ≤ r → 0 < places → n < r ^ places
    → BeginsWithDigits r n after (digits_onto places r true n after)
begins-digits_onto zero r n after two some fits = absurd (omega arith)
begins-digits_onto (suc places) r n after two some fits =
    elim (cases_eq (n / r) 0) [
      | inl none ↦
          let last : n % r ≡ n = omega (arith, rw none at (div-add-mod' n r)) in
          let small : n < r = omega (arith, mod-lt n {m = r} (omega arith)) in
          let step : digits_onto (suc places) r true n after ≡ digit_char (n % r) ∷ after =
          cond-true _ _ _ (eq-eqb (n / r) 0 none) in
          record {
            text = digit_char n ∷ [];
            is = IsDigits-one r n small;
            split = step ∙ ap (λ d. digit_char d ∷ after) last;
          }
      | inr more ↦
          let fewer : n / r < r ^ places = quotient-fits r n places (omega arith) fits in
          let left : 0 < places = exponent-pos r places (omega (arith, fewer, more)) in
          let step : digits_onto (suc places) r true n after
          ≡ digits_onto places r true (n / r) (digit_char (n % r) ∷ after) =
          cond-false _ _ _ (ne_eqb (n / r) 0 more) in
          let front = begins-digits_onto places r (n / r) (digit_char (n % r) ∷ after) two left fewer in
          record {
            text = front.text ++ digit_char (n % r) ∷ [];
            is = IsDigits-more r n front.text two (quotient-le r n more) front.is;
            split = step ∙ front.split ∙ sym (append_assoc front.text (digit_char (n % r) ∷ []) after);
          }
    ]
  where
    quotient-fits : (r n places : ℕ) → 0 < r → n < r ^ suc places → n / r < r ^ places
    quotient-fits r n places some fits =
        (div-lt_iff_lt-mul {k = r} {x = n} {y = r ^ places} some).1 (rw pow-suc at fits)

    exponent-pos : (r places : ℕ) → 1 < r ^ places → 0 < places
    exponent-pos r zero big = absurd (omega (arith, pow-zero r))
    exponent-pos r (suc places) big = omega arith

    quotient-le : (r n : ℕ) → (n / r ≡ 0 → ⊥) → r ≤ n
    quotient-le r n more = elim (cases_lt n r) [ inl less ↦ absurd (more (div-eq_of_lt less)) | inr enough ↦ enough ]

-- ---- the whole text

-- a number n below 2 ^ 64 is below the radix to the power of 64 or of n + 1, whichever power is smaller
fits-min : (r n : ℕ) → 2 ≤ r → n < 2 ^ 64 → n < r ^ min 64 (n + 1)
fits-min r n two small =
    elim (cases_lt n 64) [
      | inl few ↦ let e : min 64 (n + 1) ≡ n + 1 = omega arith in
          rw e (omega (arith, lt-pow_self r n two, pow-lt_more r n (n + 1) two (omega arith)))
      | inr many ↦ let e : min 64 (n + 1) ≡ 64 = omega arith in
          rw e (omega (arith, small, pow-le-pow_left {n = 2} {m = r} two 64))
    ]

-- the computed digits of a number below 2 ^ 64 are its digits, in a radix of at least 2
IsDigits-digits_text : (r n : ℕ) → 2 ≤ r → n < 2 ^ 64 → IsDigits r n (digits_text r n)
IsDigits-digits_text r n two small =
    let whole = begins-digits_onto (min 64 (n + 1)) r n [] two (omega arith) (fits-min r n two small) in
    rw (whole.split ∙ append-nil whole.text) whole.is

-- a text is the digits of a number below 2 ^ 64 if and only if it is the computed text
pub digits_computed : (r n : ℕ) (text : List ℕ) → 2 ≤ r → n < 2 ^ 64 → IsDigits r n text ↔ (text ≡ digits_text r n)
digits_computed r n text two small =
    let computed = IsDigits-digits_text r n two small in
    (λ is. digits_unique r n text (digits_text r n) two is computed, λ same. rw same computed)

-- the computed text of a number in a format is its text, if its magnitude is below 2 ^ 64 and the radix at least 2
IsText-text_of : (x : ℤ) (format : Format) → 2 ≤ format.mantissa_radix → unsigned_abs x < 2 ^ 64
    → IsText x format (text_of x format)
IsText-text_of x format two small = grind (arith, IsDigits-digits_text)

-- a text is that of a number in a format if and only if it is the computed one, for magnitudes below 2 ^ 64
pub text_computed : (x : ℤ) (format : Format) (text : List ℕ)
    → 2 ≤ format.mantissa_radix → unsigned_abs x < 2 ^ 64 → IsText x format text ↔ (text ≡ text_of x format)
text_computed x format text two small =
    let computed = IsText-text_of x format two small in
    (λ is. texts_unique x format text (text_of x format) two is computed, λ same. rw same computed)
