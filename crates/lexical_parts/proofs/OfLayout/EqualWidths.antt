-- Texts of equal widths with separators between them.
use Rattle.std.proofs.Common.{◌≡◌, ℕ, zero, suc, ◌+◌, ◌-◌, ◌*◌, List, [], ◌∷◌, ◌++◌, length, take, drop, slice_range}
use Rattle.std.proofs.Common.{sym, ap, ◌∙◌, arith, append_assoc, length-append}
use Rattle.std.specs.Prelude.{IfSome, slice_get}
use Rattle.std.specs.List.{All}
use Rattle.std.proofs.lemmas.List.{take_at, take_all, drop_at, drop-drop}
use Rattle.std.proofs.lemmas.List.Elements.{All-head, All-tail}
use Rattle.lexical_write_integer.specs.Sequence.{AreJoined}

module _ {A : Type 0} (IsOf : A → List ℕ → Type 0) (separator : List ℕ) (w : ℕ) where
  abbrev Wide : A → Type 0
  Wide x = (t : List ℕ) → IsOf x t → length t ≡ w

  abbrev step : ℕ
  step = w + length separator

  at_zero : 0 * step ≡ 0
  at_zero = omega arith

  place : (xs : List A) (text : List ℕ) → All Wide xs → AreJoined IsOf separator xs text
      → (k : ℕ) → IfSome (slice_get xs k) (λ x. IsOf x (take w (drop (k * step) text)))
  place [] text wide is k = tt
  place (x ∷ []) text wide is zero =
      let long = All-head Wide x [] wide text is in
      let same : take w (drop (0 * step) text) ≡ text =
      ap (λ n. take w (drop n text)) at_zero ∙ take_all w text (omega (arith, long)) in
      rw same is
  place (x ∷ []) text wide is (suc k) = tt
  place (x ∷ y ∷ xs) text wide is zero =
      let long = All-head Wide x (y ∷ xs) wide is.first is.is_first in
      let same : take w (drop (0 * step) text) ≡ is.first =
      ap (λ n. take w (drop n text)) at_zero ∙ ap (take w) is.whole ∙ take_at is.first is.second w long in
      rw same is.is_first
  place (x ∷ y ∷ xs) text wide is (suc k) =
      let long = All-head Wide x (y ∷ xs) wide is.first is.is_first in
      let rest = is.is_second.second in
      let whole : text ≡ (is.first ++ separator) ++ rest =
      is.whole ∙ ap (λ t. is.first ++ t) (is.is_second.whole ∙ ap (λ t. t ++ rest) is.is_second.is_first)
      ∙ sym (append_assoc is.first separator rest) in
      let behind : drop step text ≡ rest =
      ap (drop step) whole ∙ drop_at (is.first ++ separator) rest step
      (omega (arith, length-append is.first separator, long)) in
      let more : suc k * step ≡ step + k * step = grind arith in
      let same : drop (suc k * step) text ≡ drop (k * step) rest =
      ap (λ n. drop n text) more ∙ sym (drop-drop (k * step) step text) ∙ ap (drop (k * step)) behind in
      rw same (place (y ∷ xs) rest (All-tail Wide x (y ∷ xs) wide) is.is_second.is_second k)

  -- before the text of element k are k texts of the width and k separators
  pub starts_at : (xs : List A) (text : List ℕ) → All Wide xs → AreJoined IsOf separator xs text
      → (k : ℕ) → IfSome (slice_get xs k) (λ x. IsOf x (slice_range text (k * step) (k * step + w)))
  starts_at xs text wide is k =
      let same : k * step + w - k * step ≡ w = omega arith in rw same (place xs text wide is k)
