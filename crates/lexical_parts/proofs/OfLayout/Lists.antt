-- The texts of the elements of a list, to whose end the text of the next element is added.
use Rattle.std.proofs.lemmas.Grind.{common_steps}
use Rattle.std.proofs.Common.{◌≡◌, ℕ, ◌+◌, ◌-◌, ◌<◌, ◌≤◌, List, [], ◌∷◌, ◌++◌, length, take, drop, slice_range, get_or}
use Rattle.std.proofs.Common.{refl, sym, ap, ◌∙◌, arith, append_assoc, length-append}
use Rattle.std.proofs.lemmas.List.{take_more, append-nil, drop_at, length-drop, length-take-le, take-append-drop}
use Rattle.std.proofs.Math.Seq.{take-add}
use Rattle.lexical_write_integer.specs.Buffer.{Writes}
use Rattle.lexical_write_integer.specs.Sequence.{IsExactly, AreJoined}
use Rattle.lexical_write_integer.proofs.Buffers.Prefixes.{Front-after, Writes-over-all, length-after, take-Writes}
use Rattle.lexical_write_integer.proofs.OfTexts.Joins.{Leads, AreJoined-push}
use Rattle.lexical_parts.specs.Fields.{bytes_between}
use Rattle.lexical_parts.specs.Joined.{AreEach}
use Rattle.lexical_parts.specs.Sequence.{◌then◌}

-- the texts of the elements of a list in order, and then the text of one more element, are the texts of the list with
-- that element at its end
AreEach-push : {A : Type 0} (IsOf : A → List ℕ → Type 0) (xs : List A) (x : A) (s t : List ℕ) →
    AreEach IsOf xs s → IsOf x t → AreEach IsOf (xs ++ x ∷ []) (s ++ t)
AreEach-push IsOf [] x s t none is =
    record {
      first = t;
      second = [];
      is_first = is;
      is_second = refl;
      whole = ap (λ k. k ++ t) none
          ∙ sym (append-nil t);
    }
AreEach-push IsOf (y ∷ ys) x s t each is = record {
  first = each.first;
  second = each.second ++ t;
  is_first = each.is_first;
  is_second = AreEach-push IsOf ys x each.second t each.is_second is;
  whole = ap (λ k. k ++ t) each.whole ∙ append_assoc each.first each.second t;
}

-- a loop of the caller's adds the text of element `i` to bytes that end in the texts of the elements before it
pub added_each : {A : Type 0} (IsOf : A → List ℕ → Type 0) (start : List ℕ) (xs : List A) {i : ℕ} (d : A)
    {before text : List ℕ} →
    i < length xs → (IsExactly start then AreEach IsOf (take i xs)) before → IsOf (get_or xs i d) text →
    (IsExactly start then AreEach IsOf (take (i + 1) xs)) (before ++ text)
added_each IsOf start xs {i} d {before} {text} inside each is = grind (arith, common_steps, AreEach-push)

-- a loop of the caller's writes the text of element `i` after the texts of the elements before it, by `write_at`
pub written_each : {A : Type 0} (IsOf : A → List ℕ → Type 0) (xs : List A) {i : ℕ} (d : A)
    {before between after : List ℕ} {count last : ℕ} →
    i < length xs → Writes (AreEach IsOf (take i xs)) before between count →
    IsOf (get_or xs i d) (bytes_between after count last) → take count after ≡ take count between →
    drop last after ≡ drop last between → count ≤ last → last ≤ length between → length after ≡ length between →
    Writes (AreEach IsOf (take (i + 1) xs)) before after last
unfolding bytes_between
written_each IsOf xs {i} d {before} {between} {after} {count} {last} inside texts is front rest some fits long =
    let part = slice_range after count last in
    let whole = texts.text ++ part in
    let gap : count + (last - count) ≡ last = omega arith in
    let first : take last after ≡ whole =
    ap (λ n. take n after) (sym gap) ∙ take-add count (last - count) after
    ∙ ap (λ text. text ++ part) (front ∙ take-Writes before between count texts) in
    let counted : length whole ≡ last = sym (ap length first) ∙ length-take-le last after (omega (arith, long)) in
    let added : Writes (IsExactly whole) between after last = record {
      text = whole;
      is = refl;
      front = record {
        fits = omega (arith, counted);
        written = sym (take-append-drop last after) ∙ ap (λ text. text ++ drop last after) first
            ∙ ap (λ text. whole ++ text) rest
            ∙ ap (λ n. whole ++ drop n between) (sym counted);
      };
      count = sym counted;
    } in
    let same : length between ≡ length before = grind (arith, length-append, length-drop) in
    let left : drop count between ≡ drop count before = grind (arith, drop_at) in
    let all = Writes-over-all count same left some added in
    rw (take_more xs i d inside) (record {
      text = all.text;
      is = rw all.is (AreEach-push IsOf (take i xs) (get_or xs i d) texts.text part texts.is is);
      front = all.front;
      count = all.count;
    })

-- element `i` is written after the texts of the elements before it, and after the separator unless it is the first
pub written_joined : {A : Type 0} (IsOf : A → List ℕ → Type 0) (separator lead : List ℕ) (xs : List A) {i : ℕ} {y : A}
    {before between part : List ℕ} {count more : ℕ} (room : ℕ) →
    i < length xs → y ≡ get_or xs i y → Leads separator i lead
    → Writes (AreJoined IsOf separator (take i xs)) before between count →
    Writes (IsExactly lead then IsOf y) (take room (drop count between)) part more →
    Writes (AreJoined IsOf separator (take (i + 1) xs)) before
    (take count between ++ (part ++ drop room (drop count between))) (count + more)
written_joined IsOf separator lead xs {i} {y} {before} {between} {part} {count}
    {more} room inside is leads texts added =
    let one_longer : take (i + 1) xs ≡ take i xs ++ y ∷ [] =
    take_more xs i y inside ∙ ap (λ x. take i xs ++ x ∷ []) (sym is) in
    let leads' : Leads separator (length (take i xs)) lead = rw (length-take-le i xs (omega arith)) leads in
    rw one_longer (record {
      text = texts.text ++ added.text;
      is = AreJoined-push IsOf separator lead (take i xs) y texts.text added.text leads' texts.is added.is;
      front = Front-after before between part texts.text added.text count room texts.count texts.front added.front;
      count = length-after texts.text added.text count more texts.count added.count;
    })
