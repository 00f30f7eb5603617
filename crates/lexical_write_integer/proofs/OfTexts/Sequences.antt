-- A text that is written after another makes one text with it.
use Rattle.std.proofs.Common.{◌≡◌, ℕ, ◌+◌, List, ◌++◌, length, take, drop, refl, sym, ap, ◌∙◌, arith, append_assoc}
use Rattle.std.proofs.lemmas.Int.{to_z-of_z}
use Rattle.std.proofs.lemmas.List.{drop-append-le, length-take, take-append-drop}
use Rattle.lexical_write_integer.specs.Buffer.{Writes}
use Rattle.lexical_write_integer.specs.Sequence.{Then}
use Rattle.lexical_write_integer.proofs.Buffers.Prefixes.{Front-after, length-after}

-- a text is written, and then another in the bytes that follow it
pub written_then : (IsFirst IsSecond : List ℕ → Type 0) (before between part : List ℕ) (count room more : ℕ)
    → Writes IsFirst before between count → Writes IsSecond (take room (drop count between)) part more
    → Writes (Then IsFirst IsSecond) before (take count between ++ (part ++ drop room (drop count between)))
    (count + more)
written_then IsFirst IsSecond before between part count room more a b = record {
  text = a.text ++ b.text;
  is = record { first = a.text; second = b.text; is_first = a.is; is_second = b.is; whole = refl };
  front = Front-after before between part a.text b.text count room a.count a.front b.front;
  count = length-after a.text b.text count more a.count b.count;
}

-- what a caller that writes texts one after another names in its `#[tactic(auto, using(..))]`: the lemma, and that a
-- signed number is the whole number that contracts see
pub ruleset in_order = (written_then, to_z-of_z)

-- a text is written in the first bytes only: for a caller that passes `write_padded` a slice of exactly the width
pub written_first : (Is : List ℕ → Type 0) (before part : List ℕ) (count room : ℕ)
    → Writes Is (take room before) part count → Writes Is before (part ++ drop room before) count
written_first Is before part count room w =
    let left : drop (length w.text) (take room before) ++ drop room before ≡ drop (length w.text) before =
    sym (drop-append-le (length w.text) (take room before) (drop room before) w.front.fits)
    ∙ ap (drop (length w.text)) (take-append-drop room before) in
    grind (arith, length-take, append_assoc)
