-- A change of each element that is made in both ends of a list, which together are the whole list.
use Rattle.std.proofs.Common.{◌≡◌, ℕ, ◌-◌, ◌*◌, ◌≤◌, List, [], ◌∷◌, ◌++◌, length, map, take, drop, refl, sym, ap, ◌∙◌}
use Rattle.std.proofs.Common.{arith, length-append}
use Rattle.std.proofs.lemmas.List.{append-nil, drop-map, length-drop, length-map, length-take-le, map-append}
use Rattle.std.proofs.lemmas.List.{take-append-drop, take-append-le, take-map}
use Rattle.std.proofs.lemmas.List.{drop_all, take_all, take-take}
use borrow.Rule.Slice.PartMut.{put_mid}

-- if a function applied twice to any number gives what it gives applied once, so it does for each element of a list
map_twice : (f : ℕ → ℕ) → ((x : ℕ) → f (f x) ≡ f x) → (xs : List ℕ) → map f (map f xs) ≡ map f xs
map_twice f once [] = refl
map_twice f once (x ∷ xs) = rw (once x, map_twice f once xs) refl

-- what is made twice is made once
pub in_halves : (f : ℕ → ℕ) → ((x : ℕ) → f (f x) ≡ f x) → (xs first second : List ℕ) (size : ℕ) → size ≤ length xs
    → length xs ≤ 2 * size
    → first ≡ map f (take size xs) → second ≡ map f
    (take (length (first ++ drop size xs) - (length (first ++ drop size xs) - size))
    (drop (length (first ++ drop size xs) - size) (first ++ drop size xs)))
    → put_mid (length (first ++ drop size xs) - size)
    (length (first ++ drop size xs) - (length (first ++ drop size xs) - size))
    (first ++ drop size xs) second ≡ map f xs
in_halves f once xs first second size some all is_first is_second =
    let whole : List ℕ = first ++ drop size xs in
    let start = length whole - size in
    let first_long : length first ≡ size = ap length is_first ∙ length-map (take size xs) f
    ∙ length-take-le size xs some in
    let long : length whole ≡ length xs =
    omega (arith, first_long, length-append first (drop size xs), length-drop size xs) in
    let changed : map f whole ≡ map f xs =
    grind (arith, is_first, map_twice f once (take size xs), map-append, take-append-drop size xs) in
    let front : take start whole ≡ map f (take start xs) =
    take-append-le start first (drop size xs) (omega (arith, long, first_long)) ∙ ap (take start) is_first
    ∙ take-map f start (take size xs)
    ∙ ap (map f) (take-take start size xs (omega (arith, long))) in
    let rest : length (drop start whole) ≤ length whole - start = omega (arith, length-drop start whole) in
    let back : second ≡ map f (drop start xs) =
    is_second ∙ ap (map f) (take_all _ _ rest) ∙ sym (drop-map f start whole) ∙ ap (drop start) changed
    ∙ drop-map f start xs in
    rw (
      front,
      back,
      drop_all _ _ rest,
      append-nil (map f (drop start xs)),
      ← map-append f (take start xs) (drop start xs),
      take-append-drop start xs,
    ) refl
