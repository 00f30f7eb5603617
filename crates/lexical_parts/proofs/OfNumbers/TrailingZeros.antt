-- Digits without the zeros at their end.
use Rattle.std.proofs.Common.{◌≡◌, ◌≢◌, ℕ, ◌+◌, ◌-◌, ◌*◌, ◌/◌, ◌%◌, ◌^◌, ◌≤◌, List, [], ◌∷◌, length, take, drop}
use Rattle.std.proofs.Common.{drop-cons, get_or}
use Rattle.std.proofs.Common.{replicate, sym, ap, ◌∙◌, arith}
use Rattle.std.proofs.Math.Nat.{div-add-mod'}
use Rattle.std.proofs.lemmas.List.{get_or-drop, get_or-take}
use Rattle.lexical_write_integer.specs.Padded.{IsPadded}
use Rattle.lexical_write_integer.proofs.OfDigits.PaddedDigits.{IsPadded-zeros, padded_unique}
use Rattle.lexical_write_integer.proofs.OfTexts.Orders.{equal_from_IsPadded}
use Rattle.lexical_parts.proofs.OfNumbers.Points.{IsPadded-split}

-- a further zero
pub zeros_more : (digits : List ℕ) (count : ℕ) → 1 ≤ count → count ≤ length digits → get_or digits (count - 1) 0 ≡ 48
    → drop count digits ≡ replicate (length digits - count) 48
    → drop (count - 1) digits ≡ replicate (length digits - (count - 1)) 48
zeros_more digits count some within byte ends = grind (arith, drop-cons)

-- a digit 0 at the end is the character `0`
last_is_zero : (count number : ℕ) (text : List ℕ) → IsPadded 10 (count + 1) number text → number % 10 ≡ 0
    → get_or text count 0 ≡ 48
last_is_zero count number text is none =
    let last = (IsPadded-split 10 count 1 number text is).1 in
    let zero : IsPadded 10 1 0 (drop count text) = rw none at last in
    let same : drop count text ≡ 48 ∷ [] = padded_unique 10 1 0 _ _ zero (IsPadded-zeros 10 1 (omega arith)) in
    let index : count + 0 ≡ count = omega arith in
    sym (rw index at (get_or-drop count text 0 0)) ∙ ap (λ xs. get_or xs 0 0) same

-- what is left of the digits without `zeros` zeros at their end
pub record AreLeft (kept zeros number : ℕ) (text : List ℕ) : Type 0 where
  pub is : IsPadded 10 kept (number / 10 ^ zeros) (take kept text)
  pub whole : number ≡ number / 10 ^ zeros * 10 ^ zeros
  pub last : 1 ≤ kept → get_or text (kept - 1) 0 ≢ 48 → number / 10 ^ zeros % 10 ≢ 0

-- if digits end with zeros, the ones before are what is left
pub zeros_left_out : (kept zeros number : ℕ) (text : List ℕ) → IsPadded 10 (kept + zeros) number text
    → drop kept text ≡ replicate zeros 48
    → AreLeft kept zeros number text
zeros_left_out kept zeros number text is ends =
    let both = IsPadded-split 10 kept zeros number text is in
    let padded : IsPadded 10 zeros 0 (drop kept text) = rw ends (IsPadded-zeros 10 zeros (omega arith)) in
    let none : number % 10 ^ zeros ≡ 0 = equal_from_IsPadded 10 zeros _ 0 (drop kept text) both.1 padded in
    record {
      is = both.0;
      whole = omega (arith, none, div-add-mod' number (10 ^ zeros));
      last = λ some other zero.
          let counted : kept - 1 + 1 ≡ kept = omega arith in
          let byte = last_is_zero (kept - 1) _ (take kept text) (rw counted both.0) zero in
          other (sym (get_or-take kept text (kept - 1) 0 (omega arith)) ∙ byte);
    }
