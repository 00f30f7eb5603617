-- Numbers with leading zeros: zeros, and then the digits.
use Rattle.std.proofs.Common.{◌≡◌, ℕ, zero, suc, ◌+◌, ◌*◌, ◌/◌, ◌%◌, ◌^◌, ◌<◌, ◌≤◌, ◌↔◌, List, [], ◌∷◌, ◌++◌, length}
use Rattle.std.proofs.Common.{map, replicate, refl, sym, ap, ◌∙◌, arith}
use Rattle.std.proofs.Math.Nat.{pow-zero, pow-suc, mod-lt, div-add-mod', div-lt_iff_lt-mul}
use Rattle.std.proofs.lemmas.List.{length-map, length-replicate, map-append}
use Rattle.std.proofs.lemmas.List.Elements.{All-nil, All-replicate}
use Rattle.lexical_num.specs.Digit.{digit_char}
use Rattle.lexical_write_integer.specs.Computed.{padded_text}
use Rattle.lexical_write_integer.specs.DigitCount.{digit_count}
use Rattle.lexical_write_integer.specs.Numeral.{IsBlockOf, value_of}
use Rattle.lexical_write_integer.specs.Padded.{IsPadded}
use Rattle.lexical_write_integer.specs.Text.{IsDigits}
use Rattle.lexical_write_integer.proofs.OfDigits.Numerals.{IsBlockOf-one, IsBlockOf-append, length-IsNumeralOf}
use Rattle.lexical_write_integer.proofs.OfDigits.Powers.{pow-one}
use Rattle.lexical_write_integer.proofs.OfDigits.DigitValues.{same_digits}

-- digits that are all 0 have the value 0
value_of-zeros : (r k : ℕ) → value_of r (replicate k 0) ≡ 0
value_of-zeros r zero = refl
value_of-zeros r (suc k) = omega (arith, value_of-zeros r k)

-- k digits that are all 0 are a block of k digits with the value 0, if the radix is not 0
IsBlockOf-zeros : (r k : ℕ) → 0 < r → IsBlockOf r k 0 (replicate k 0)
IsBlockOf-zeros r k some = search (arith, length-replicate, All-replicate, value_of-zeros)

-- the characters of k digits 0 are k characters `0`
map-zeros : (k : ℕ) → map digit_char (replicate k 0) ≡ replicate k 48
map-zeros zero = refl
map-zeros (suc k) = ap (λ text. 48 ∷ text) (map-zeros k)

-- the number 0 in a width is as many zeros as the width
pub IsPadded-zeros : (r width : ℕ) → 0 < r → IsPadded r width 0 (replicate width 48)
IsPadded-zeros r width some = record {
  digits = replicate width 0;
  block = IsBlockOf-zeros r width some;
  characters = sym (map-zeros width);
}

-- a number with leading zeros is as long as its width
pub length-IsPadded : (r width number : ℕ) (text : List ℕ) → IsPadded r width number text → length text ≡ width
length-IsPadded r width number text is = ap length is.characters ∙ length-map is.digits digit_char ∙ is.block.counted

-- zeros before the digits of the number
pub IsPadded-digits : (r n zeros width : ℕ) (text : List ℕ)
    → 2 ≤ r → zeros + digit_count r n ≡ width → IsDigits r n text → IsPadded r width n (replicate zeros 48 ++ text)
IsPadded-digits r n zeros width text two long is =
    let block : IsBlockOf r (digit_count r n) n is.digits = grind (arith, length-IsNumeralOf) in
    let none : 0 * r ^ digit_count r n + n ≡ n = omega arith in
    record {
      digits = replicate zeros 0 ++ is.digits;
      block = rw (long, none) at (IsBlockOf-append (IsBlockOf-zeros r zeros (omega arith)) block);
      characters = ap (λ t. replicate zeros 48 ++ t) is.characters
          ∙ ap (λ t. t ++ map digit_char is.digits) (sym (map-zeros zeros))
          ∙ sym (map-append digit_char (replicate zeros 0) is.digits);
    }

-- ---- the text as a function computes it

-- a text of one further digit
IsPadded-more : (r width n : ℕ) (text : List ℕ) → 2 ≤ r → IsPadded r width (n / r) text
    → IsPadded r (suc width) n (text ++ digit_char (n % r) ∷ [])
IsPadded-more r width n text two is =
    let whole : n / r * r ^ 1 + n % r ≡ n = rw pow-one (div-add-mod' n r) in
    let long : width + 1 ≡ suc width = omega arith in
    record {
      digits = is.digits ++ n % r ∷ [];
      block = rw (long, whole) at (IsBlockOf-append is.block (IsBlockOf-one r (n % r) (mod-lt n (omega arith))));
      characters = ap (λ t. t ++ digit_char (n % r) ∷ []) is.characters
          ∙ sym (map-append digit_char is.digits (n % r ∷ []));
    }

-- the computed text of a number in a width is a text of it with leading zeros in that width, if the number is below the
-- radix to the power of the width
IsPadded-padded_text : (r width n : ℕ) → 2 ≤ r → n < r ^ width → IsPadded r width n (padded_text r width n)
IsPadded-padded_text r zero n two fits = record {
  digits = [];
  block = record { counted = refl; below_radix = All-nil (λ d. d < r); value = omega (arith, pow-zero r) };
  characters = refl;
}
IsPadded-padded_text r (suc width) n two fits =
    let less : n / r < r ^ width = (div-lt_iff_lt-mul {k = r} {x = n} {y = r ^ width} (omega arith)).1
    (rw pow-suc at fits) in
    IsPadded-more r width n (padded_text r width (n / r)) two (IsPadded-padded_text r width (n / r) two less)

-- a number has at most one text in a width
pub padded_unique : (r width n : ℕ) (a b : List ℕ) → IsPadded r width n a → IsPadded r width n b → a ≡ b
padded_unique r width n a b p q = grind (arith, same_digits)

-- which is the computed text, if the number is below the radix to the power of the width
pub padded_computed : (r width n : ℕ) (text : List ℕ) → 2 ≤ r → n < r ^ width → IsPadded r width n text
    ↔ (text ≡ padded_text r width n)
padded_computed r width n text two fits =
    let computed = IsPadded-padded_text r width n two fits in
    (λ is. padded_unique r width n text (padded_text r width n) is computed, λ same. rw same computed)
