-- Zeros that are inserted after the sign of a text.
use Rattle.std.proofs.Common.{◌≡◌, ℕ, ◌+◌, ◌-◌, ◌<◌, ◌≤◌, List, ◌++◌, length, length-append, take, drop, replicate, sym}
use Rattle.std.proofs.Common.{ap, ◌∙◌, arith}
use Rattle.std.specs.List.{copy_within}
use Rattle.std.proofs.lemmas.List.{same_lists, places, length-drop, length-replicate, length-take-le}
use Rattle.lexical_write_integer.specs.ZerosAfterSign.{sign_length, with_zeros}
use Rattle.lexical_c.specs.Ending.{PadsOrRefuses}

-- the bytes after the sign are moved, and zeros are written where they began
moved_behind_zeros : (before moved zeros : List ℕ) (sign count width more : ℕ) → sign ≤ count → count ≤ width
    → width ≤ length before →
    more ≡ width - count → moved ≡ copy_within before sign count (sign + (width - count)) →
    zeros ≡ replicate (length (take more (drop sign moved))) 48 →
    take sign moved ++ (zeros ++ drop more (drop sign moved))
    ≡ (take sign (take count before) ++ (replicate (width - count) 48 ++ drop sign (take count before)))
    ++ drop width before
moved_behind_zeros before moved zeros sign count width more within wide room some is_moved are_zeros =
    same_lists _ _ (grind (arith, places)) (λ k d h. grind (arith, places))

-- a text with zeros inserted after its sign has the width
pub padded : (before moved zeros : List ℕ) (sign count width more : ℕ) → 1 ≤ count → count < width
    → width ≤ length before →
    more ≡ width - count → sign ≡ sign_length (take count before) →
    moved ≡ copy_within before sign count (sign + (width - count)) →
    zeros ≡ replicate (length (take more (drop sign moved))) 48 →
    PadsOrRefuses count width before (take sign moved ++ (zeros ++ drop more (drop sign moved))) width
padded before moved zeros sign count width more some short room added is_sign is_moved are_zeros =
    let within : sign ≤ 1 = grind arith in
    let whole = moved_behind_zeros before moved zeros sign count width more (omega (arith, within)) (omega arith)
    room added is_moved are_zeros in
    let long : length (with_zeros (width - count) (take count before)) ≡ width =
    grind (arith, length-append, length-replicate, length-take-le, length-drop) in
    let text = take count before in
    record {
      accepts = grind arith;
      long = λ _. omega arith;
      text = λ _. record {
        fits = omega (arith, long);
        written = whole
            ∙ ap (λ sign. (take sign text ++ (replicate (width - count) 48 ++ drop sign text))
            ++ drop width before) is_sign
            ∙ ap (λ n. with_zeros (width - count) text ++ drop n before) (sym long);
      };
      refused = λ none. absurd (omega (arith, none));
    }
