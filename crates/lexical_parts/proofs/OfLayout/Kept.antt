-- Parts of a buffer that a later write leaves as they are.
use Rattle.std.proofs.Common.{◌≡◌, ℕ, ◌+◌, ◌-◌, ◌≤◌, ◌∙◌, List, ap, arith, drop, inl, inr, slice_range, sym, take}
use Rattle.std.proofs.lemmas.Bool.{cases_lt}
use Rattle.std.proofs.lemmas.List.{drop-drop, drop-take, take-take}
use Rattle.lexical_parts.specs.Fields.{bytes_between}

-- a part of the first bytes
part_of_front : (i from to : ℕ) (xs : List ℕ) → from ≤ to → to ≤ i
    → slice_range xs from to ≡ drop from (take to (take i xs))
part_of_front i from to xs ordered within =
    let long : from + (to - from) ≡ to = omega (arith, ordered) in
    sym (drop-take from (to - from) xs) ∙ ap (λ n. drop from (take n xs)) long
    ∙ ap (drop from) (sym (take-take to i xs within))

-- lists with the same first i bytes have the same bytes in each range before i
pub kept_before : (i : ℕ) (xs ys : List ℕ) → take i xs ≡ take i ys → (from to : ℕ) → to ≤ i
    → bytes_between xs from to ≡ bytes_between ys from to
unfolding bytes_between
kept_before i xs ys same from to within =
    elim (cases_lt to from) [
      | inl reversed ↦
          let none : to - from ≡ 0 = omega (arith, reversed) in
          ap (λ n. take n (drop from xs)) none ∙ ap (λ n. take n (drop from ys)) (sym none)
      | inr ordered ↦
          part_of_front i from to xs ordered within ∙ ap (λ l. drop from (take to l)) same
          ∙ sym (part_of_front i from to ys ordered within)
    ]

-- lists with the same bytes from i on have the same bytes in each range from i on
pub kept_after : (i : ℕ) (xs ys : List ℕ) → drop i xs ≡ drop i ys → (from to : ℕ) → i ≤ from
    → bytes_between xs from to ≡ bytes_between ys from to
unfolding bytes_between
kept_after i xs ys same from to within =
    let long : i + (from - i) ≡ from = omega (arith, within) in
    let rest : drop from xs ≡ drop from ys =
    ap (λ n. drop n xs) (sym long) ∙ sym (drop-drop (from - i) i xs) ∙ ap (drop (from - i)) same
    ∙ drop-drop (from - i) i ys ∙ ap (λ n. drop n ys) long in
    ap (take (to - from)) rest
