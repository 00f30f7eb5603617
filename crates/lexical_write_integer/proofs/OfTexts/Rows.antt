-- Rows of elements with separators between their texts: one text belongs to one row.
use Rattle.std.proofs.Common.{◌≡◌, ℕ, ◌<◌, ◌≤◌, List, [], ◌∷◌, ◌++◌, length, length-append, drop, get_or, refl, sym, ap}
use Rattle.std.proofs.Common.{◌∙◌, ℤ, arith}
use Rattle.std.specs.Prelude.{◌≢◌, None}
use Rattle.std.specs.List.{All}
use Rattle.std.specs.Char.{IsNotAsciiAlphanumeric}
use Rattle.std.proofs.lemmas.List.{length-map}
use Rattle.std.proofs.lemmas.List.Elements.{All-append, All-head, All-tail}
use Rattle.lexical_num.specs.Digit.{digit_char}
use Rattle.lexical_num.specs.Format.{Format}
use Rattle.lexical_num.specs.Sign.{sign_of}
use Rattle.lexical_write_integer.specs.Sequence.{AreJoined, IsExactly, Then}
use Rattle.lexical_write_integer.specs.Text.{IsText}
use Rattle.lexical_write_integer.proofs.OfTexts.ReadTexts.{bare}
use Rattle.lexical_write_integer.proofs.OfTexts.Separators.{digits_have_no, sign_is_none}

-- two texts without the separator, each before one and a rest
pub split : (p : ℕ) (f g r q : List ℕ) → All (λ b. b ≢ p) f → All (λ b. b ≢ p) g → f ++ p ∷ r ≡ g ++ p ∷ q
    → (f ≡ g) × (r ≡ q)
split p [] [] r q none_in_f none_in_g same = (refl, ap (drop 1) same)
split p [] (d ∷ g) r q none_in_f none_in_g same =
    absurd (All-head (λ c. c ≢ p) d g none_in_g (sym (ap (λ l. get_or l 0 0) same)))
split p (c ∷ f) [] r q none_in_f none_in_g same =
    absurd (All-head (λ d. d ≢ p) c f none_in_f (ap (λ l. get_or l 0 0) same))
split p (c ∷ f) (d ∷ g) r q none_in_f none_in_g same =
    let rest = split p f g r q (All-tail (λ x. x ≢ p) c f none_in_f) (All-tail (λ x. x ≢ p) d g none_in_g)
    (ap (drop 1) same) in
    (ap (λ x. x ∷ f) (ap (λ l. get_or l 0 0) same) ∙ ap (λ l. d ∷ l) rest.0, rest.1)

-- a text that contains the byte is not one without it
pub has_one : (p : ℕ) (f r : List ℕ) → All (λ b. b ≢ p) (f ++ p ∷ r) → ⊥
has_one p [] r none = All-head (λ c. c ≢ p) p r none refl
has_one p (c ∷ f) r none = has_one p f r (All-tail (λ x. x ≢ p) c (f ++ p ∷ r) none)

-- a row belongs to one list if the text of an element belongs to one element, is not empty, and ends where the
-- separator or the row does
module _ {A : Type 0} (P : A → List ℕ → Type 0) (s : List ℕ) (some : (x : A) (text : List ℕ) → P x text
    → 0 < length text)
    (one : (x y : A) (text : List ℕ) → P x text → P y text → x ≡ y)
    (ends : (x y : A) (f g r q : List ℕ) → P x f → P y g → f ++ (s ++ r) ≡ g ++ (s ++ q) → (f ≡ g) × (r ≡ q))
    (whole : (x y : A) (f g r : List ℕ) → P x f → P y g → 0 < length r → f ≡ g ++ (s ++ r) → ⊥) where
  -- the first text, the separator and the rest
  cut : {Q R : List ℕ → Type 0} {text : List ℕ} (t : Then Q (Then (IsExactly s) R) text)
      → text ≡ t.first ++ (s ++ t.is_second.second)
  cut t = t.whole ∙ ap (λ l. t.first ++ l) (t.is_second.whole ∙ ap (λ l. l ++ t.is_second.second) t.is_second.is_first)

  row_some : (x : A) (xs : List A) (text : List ℕ) → AreJoined P s (x ∷ xs) text → 0 < length text
  row_some x [] text a = some x text a
  row_some x (y ∷ xs) text a = omega (
    arith,
    some x a.first a.is_first,
    ap length a.whole,
    length-append a.first a.second,
  )

  -- two lists that have a row in common are equal
  pub rows : (xs ys : List A) (text : List ℕ) → AreJoined P s xs text → AreJoined P s ys text → xs ≡ ys
  rows [] [] text a b = refl
  rows [] (y ∷ ys) text a b = absurd (omega (arith, row_some y ys text b, ap length a))
  rows (x ∷ xs) [] text a b = absurd (omega (arith, row_some x xs text a, ap length b))
  rows (x ∷ []) (y ∷ []) text a b = ap (λ n. n ∷ []) (one x y text a b)
  rows (x ∷ []) (y ∷ z ∷ ys) text a b =
      absurd (whole x y text b.first _ a b.is_first (row_some z ys _ b.is_second.is_second) (cut b))
  rows (x ∷ w ∷ xs) (y ∷ []) text a b =
      absurd (whole y x text a.first _ b a.is_first (row_some w xs _ a.is_second.is_second) (cut a))
  rows (x ∷ w ∷ xs) (y ∷ z ∷ ys) text a b =
      let same = ends x y a.first b.first _ _ a.is_first b.is_first (sym (cut a) ∙ cut b) in
      let rest = rows (w ∷ xs) (z ∷ ys) b.is_second.second (rw same.1 at a.is_second.is_second) b.is_second.is_second in
      ap (λ z. z ∷ w ∷ xs) (one x y b.first (rw same.0 at a.is_first) b.is_first) ∙ ap (λ l. y ∷ l) rest

-- the text of a number without groups has no byte that is neither a letter, a digit nor a sign
pub text_none : (p : ℕ) (x : ℤ) (f : Format) (text : List ℕ) → f.digit_grouping ≡ None → IsNotAsciiAlphanumeric p
    → p ≢ 43 → p ≢ 45
    → f.mantissa_radix ≤ 36 → IsText x f text → All (λ b. b ≢ p) text
text_none p x f text bare_format other plus minus few is =
    let in_digits = digits_have_no _ _ _ is.digits few other is.magnitude in
    rw (bare _ _ text bare_format is) (All-append (λ b. b ≢ p) _ is.digits (sign_is_none _ _ _ plus minus) in_digits)

-- the text of a number is not empty
pub text_some : (x : ℤ) (f : Format) (text : List ℕ) → f.digit_grouping ≡ None → IsText x f text → 0 < length text
text_some x f text bare_format is =
    let digits = is.magnitude in
    omega (
      arith,
      digits.numeral.numeral.nonempty,
      ap length digits.characters,
      length-map digits.digits digit_char,
      ap length (bare _ _ text bare_format is),
      length-append (sign_of x f.required_mantissa_sign) is.digits,
    )
