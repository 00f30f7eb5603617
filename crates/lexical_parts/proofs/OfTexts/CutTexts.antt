-- The first characters of texts in a row.
use Rattle.std.proofs.Common.{◌≡◌, ℕ, zero, suc, ◌+◌, ◌-◌, ◌<◌, ◌==◌, List, [], ◌∷◌, ◌++◌, refl, ap, ◌∙◌, arith, ltb}
use Rattle.std.proofs.Common.{◌/◌, Bool, true, false, if◌then◌else◌}
use Rattle.std.specs.Prelude.{min}
use Rattle.std.proofs.Output.{writes_in_calls_append, writes_in_calls_nil}
use Rattle.std.proofs.Padding.{char_count-cons, char_count-nil, take_chars-cons, take_chars-nil}
use Rattle.std.proofs.lemmas.Bool.{ne_eqb, cond_both, ltb-true, lt-ltb, le-ltb, le-leb}
use Rattle.std.specs.Borrow.{MutBor}
use Rattle.std.specs.Char.{encode_utf8}
use Rattle.std.specs.Fmt.{WritesInCalls, char_count, is_char_start, take_chars}
use Rattle.std.specs.Str.{IsUtf8, encode_utf8_all}
use Rattle.lexical_parts.proofs.OfFormatting.ShownParts.{closed_calls}

-- the numbers of characters of two texts in a row add up
pub char_count-append : (a b : List ℕ) → char_count (a ++ b) ≡ char_count a + char_count b
char_count-append [] b = rw char_count-nil (omega arith)
char_count-append (x ∷ a) b = rw (char_count-cons x (a ++ b), char_count-cons x a, char_count-append a b) (omega arith)

-- if, for each m, the first m characters of two texts in a row are those of the first and then the missing ones of the
-- second, so it is with a byte before them, a character's first or not, if the second does not begin within a character
append_step : (t : Bool) (n x : ℕ) (a b : List ℕ)
    → ((m : ℕ) → take_chars m (a ++ b) ≡ take_chars m a ++ take_chars (m - char_count a) b) → take_chars 0 b ≡ []
    → (if t then (if n == 0 then [] else x ∷ take_chars (n - 1) (a ++ b)) else x ∷ take_chars n (a ++ b))
    ≡ (if t then (if n == 0 then [] else x ∷ take_chars (n - 1) a) else x ∷ take_chars n a)
    ++ take_chars (n - ((if t then 1 else 0) + char_count a)) b
append_step false n x a b rest starts =
    let count : n - (0 + char_count a) ≡ n - char_count a = omega arith in
    rw count (ap (λ text. x ∷ text) (rest n))
append_step true zero x a b rest starts =
    let none : 0 - (1 + char_count a) ≡ 0 = omega arith in
    rw (none, starts) refl
append_step true (suc n) x a b rest starts =
    let less : suc n - 1 ≡ n = omega arith in
    let count : suc n - (1 + char_count a) ≡ n - char_count a = omega arith in
    rw (count, less, ne_eqb (suc n) 0 (λ none. omega (arith, none))) (ap (λ text. x ∷ text) (rest n))

-- n characters are taken from the first of two texts and, if it has fewer, from the second, which begins with one
pub take_chars-append : (n : ℕ) (a b : List ℕ) → take_chars 0 b ≡ []
    → take_chars n (a ++ b) ≡ take_chars n a ++ take_chars (n - char_count a) b
take_chars-append n [] b starts =
    let count : n - 0 ≡ n = omega arith in
    rw (char_count-nil, take_chars-nil n, count) refl
take_chars-append n (x ∷ a) b starts =
    rw (take_chars-cons n x (a ++ b), take_chars-cons n x a, char_count-cons x a)
    (append_step (is_char_start x) n x a b (λ m. take_chars-append m a b starts) starts)

-- if the first m characters of a text are m, or all if it has fewer, for each m, then with a byte before it, a
-- character's first or not, the first n characters are n, or all if there are fewer
char_count-take_more : (t : Bool) (n x : ℕ) (a : List ℕ) → is_char_start x ≡ t
    → ((m : ℕ) → char_count (take_chars m a) ≡ min m (char_count a))
    → char_count (if t then (if n == 0 then [] else x ∷ take_chars (n - 1) a) else x ∷ take_chars n a)
    ≡ min n ((if t then 1 else 0) + char_count a)
char_count-take_more false n x a is rest = rw (char_count-cons x (take_chars n a), is, rest n) (omega arith)
char_count-take_more true zero x a is rest = rw char_count-nil (omega arith)
char_count-take_more true (suc n) x a is rest =
    let less : suc n - 1 ≡ n = omega arith in
    rw (less, ne_eqb (suc n) 0 (λ none. omega (arith, none)), char_count-cons x (take_chars n a), is, rest n)
    (omega arith)

-- the first n characters of a text are n, or all if it has fewer
pub char_count-take_chars : (n : ℕ) (a : List ℕ) → char_count (take_chars n a) ≡ min n (char_count a)
char_count-take_chars n [] = rw (take_chars-nil n, char_count-nil) (omega arith)
char_count-take_chars n (x ∷ a) =
    rw (take_chars-cons n x a, char_count-cons x a)
    (char_count-take_more (is_char_start x) n x a refl (λ m. char_count-take_chars m a))

-- a text that begins with a byte below 128 does not begin within a character: its first 0 characters are no bytes
low_starts : (b : ℕ) (rest : List ℕ) → b < 128 → take_chars 0 (b ∷ rest) ≡ []
low_starts b rest low = rw (take_chars-cons 0 b rest, lt-ltb b 128 low) refl

-- a text that begins with a byte of at least 192 does not begin within a character: its first 0 characters are no bytes
high_starts : (b : ℕ) (rest : List ℕ) → take_chars 0 ((192 + b) ∷ rest) ≡ []
high_starts b rest = rw (
  take_chars-cons 0 (192 + b) rest,
  le-ltb (192 + b) 128 (omega arith),
  le-leb 192 (192 + b) (omega arith),
) refl

-- a text that begins with a character in UTF-8 does not begin within one: its first 0 characters are no bytes
first_starts : (c : ℕ) (rest : List ℕ) → take_chars 0 (encode_utf8 c ++ rest) ≡ []
unfolding encode_utf8
first_starts c rest =
    let begins = λ (bytes : List ℕ). take_chars 0 (bytes ++ rest) ≡ [] in
    let more : 224 + c / 4096 ≡ 192 + (32 + c / 4096) = omega arith in
    let most : 240 + c / 262144 ≡ 192 + (48 + c / 262144) = omega arith in
    cond_both (ltb c 128) _ _ begins (λ low. low_starts c rest (ltb-true c 128 low))
    (λ _. cond_both (ltb c 2048) _ _ begins (λ _. high_starts (c / 64) _)
    (λ _. cond_both (ltb c 65536) _ _ begins (λ _. rw more (high_starts (32 + c / 4096) _))
    (λ _. rw most (high_starts (48 + c / 262144) _))))

-- a text begins with a character
pub utf8_starts : (text : List ℕ) → IsUtf8 text → take_chars 0 text ≡ []
utf8_starts text ([], is) = rw (← is.1) (take_chars-nil 0)
utf8_starts text (c ∷ cs, is) = rw (← is.1) (first_starts c (encode_utf8_all cs))

-- what some calls write of the first characters
abbrev pub CutGives : {W T : Type 0} (took : W → List ℕ → W → Type 0) → (T → MutBor W) → (T → ℕ) → T
    → List ℕ → T → Type 0
CutGives took in_it left s bytes t =
    ((in_it t).ghost_name ≡ (in_it s).ghost_name) × (take_chars 0 bytes ≡ [])
    × WritesInCalls took (in_it s).now (take_chars (left s) bytes) (in_it t).now × (left t ≡ left s - char_count bytes)

-- if neither of two texts begins within a character, nor do both in a row: their first 0 characters are no bytes
both_start : (a b : List ℕ) → take_chars 0 a ≡ [] → take_chars 0 b ≡ [] → take_chars 0 (a ++ b) ≡ []
both_start a b first second =
    let none : 0 - char_count a ≡ 0 = omega arith in
    take_chars-append 0 a b second ∙ rw (none, first, second) refl

-- calls that are cut, one after the other, do what one call with their whole text does
pub cut_closed : {W T : Type 0} (took : W → List ℕ → W → Type 0) (in_it : T → MutBor W) (left : T → ℕ) (s t : T)
    (text : List ℕ)
    → WritesInCalls (CutGives took in_it left) s text t → CutGives took in_it left s text t
cut_closed took in_it left = closed_calls (CutGives took in_it left)
    (λ s. (
      refl,
      take_chars-nil 0,
      rw (take_chars-nil (left s)) (writes_in_calls_nil _ _),
      rw char_count-nil (omega arith),
    ))
    (λ s t u a b first second. (
      second.0 ∙ first.0,
      both_start a b first.1 second.1,
      rw (take_chars-append (left s) a b second.1, ← first.3) (writes_in_calls_append _ _ _ _ _ _ first.2 second.2),
      rw (char_count-append a b) (omega (arith, first.3, second.3)),
    ))
