-- Joined texts, and how another text is appended to them.
use Rattle.std.proofs.lemmas.Grind.{common_steps}
use Rattle.std.proofs.Common.{◌≡◌, ℕ, ◌+◌, ◌<◌, List, [], ◌∷◌, ◌++◌, length, set, refl, sym, ap, ◌∙◌, arith}
use Rattle.std.proofs.Common.{length-append, append_assoc}
use Rattle.lexical_write_integer.specs.Buffer.{Front, Writes}
use Rattle.lexical_write_integer.specs.Sequence.{AreJoined}
use Rattle.lexical_lines.proofs.Buffers.{Front-push}
use Rattle.lexical_write_integer.proofs.OfTexts.Joins.{AreJoined-push}

-- a text is written, and whatever follows it with the one property makes a whole with the other
pub record Ready (IsNext IsWhole : List ℕ → Type 0) (before between : List ℕ) (count : ℕ) : Type 0 where
  pub text : List ℕ
  pub counted : count ≡ length text
  pub front : Front before between text
  pub whole : (last : List ℕ) → IsNext last → IsWhole (text ++ last)

-- before the first text
pub Ready-one : {A : Type 0} (IsOf : A → List ℕ → Type 0) (separator : ℕ) (xs : List A) (x : A)
    (before between : List ℕ) (count : ℕ) → length xs ≡ 0
    → Writes (AreJoined IsOf (separator ∷ []) xs) before between count
    → Ready (IsOf x) (AreJoined IsOf (separator ∷ []) (xs ++ x ∷ [])) before between count
Ready-one IsOf separator xs x before between count none w = grind (arith, common_steps)

-- before each later text, after its separator
pub Ready-push : {A : Type 0} (IsOf : A → List ℕ → Type 0) (separator : ℕ) (xs : List A) (x : A)
    (before between : List ℕ) (count : ℕ) → 0 < length xs
    → count < length before → Writes (AreJoined IsOf (separator ∷ []) xs) before between count
    → Ready (IsOf x) (AreJoined IsOf (separator ∷ []) (xs ++ x ∷ [])) before (set between count separator) (count + 1)
Ready-push IsOf separator xs x before between count some less w =
    record {
      text = w.text ++ separator ∷ [];
      counted = ap (λ k. k + 1) w.count ∙ sym (length-append w.text (separator ∷ []));
      front = Front-push before between w.text count separator w.count w.front less;
      whole = λ last is.
          rw (append_assoc w.text (separator ∷ []) last)
          (AreJoined-push IsOf (separator ∷ []) (separator ∷ []) xs x w.text (separator ∷ last)
          record { at_first = λ none. absurd (omega (arith, none, some)); later = λ _. refl }
          w.is record { first = separator ∷ []; second = last; is_first = refl; is_second = is; whole = refl });
    }
