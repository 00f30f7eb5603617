-- The position of each byte of digits in groups, counted from the right.
use Rattle.std.proofs.Common.{◌≡◌, ℕ, suc, ◌+◌, ◌-◌, ◌*◌, ◌/◌, ◌%◌, ◌<◌, ◌≤◌, List, [], ◌∷◌, ◌++◌, length, get_or, sym}
use Rattle.std.proofs.Common.{ap, ◌∙◌, inl, inr, length-append, arith}
use Rattle.std.proofs.Math.Nat.{mul-mod_left, mul-div_cancel, mul-le-mul_left}
use Rattle.std.proofs.lemmas.Bool.{cases_lt}
use Rattle.std.proofs.lemmas.List.{get_or-append_right}
use Rattle.std.proofs.lemmas.Nat.{le-div}
use Rattle.lexical_write_integer.specs.Groups.{mark_before, in_groups, from_right}
use Rattle.lexical_write_integer.proofs.OfDigits.Powers.{div-monotone}
use Rattle.lexical_write_integer.proofs.OfTexts.Grouping.Digits.{length-in_groups, length-mark_before}
use Rattle.lexical_write_integer.proofs.OfTexts.Grouping.Digits.{mark_before-whole}

-- the end of a longer text has the same bytes at the same positions from the right
pub from_right-append : (front text : List ℕ) (right : ℕ) → right < length text
    → from_right (front ++ text) right ≡ from_right text right
from_right-append front text right inside = grind (arith, length-append, get_or-append_right)

-- to the right of a digit are the digits that follow it, and one separator for each whole group of them
pub digit-from_right : (grouping : ℕ × ℕ) (digits : List ℕ) (right : ℕ)
    → 0 < grouping.0 → right < length digits
    → from_right (in_groups grouping digits) (right + right / grouping.0) ≡ from_right digits right
digit-from_right grouping [] right some inside = absurd (omega arith)
digit-from_right grouping (digit ∷ []) right some inside =
    ap (λ n. get_or (digit ∷ []) n 0) (let e : 1 - 1 - (right + right / grouping.0) ≡ 1 - 1 - right = omega arith in e)
digit-from_right grouping (digit ∷ next ∷ digits) right some inside =
    let tail = next ∷ digits in
    let mark = mark_before grouping (length tail) in
    let rest = in_groups grouping tail in
    let marks = length-mark_before grouping (length tail) some (omega arith) in
    let rest_long = length-in_groups grouping tail some in
    let long = length-append mark rest in
    elim (cases_lt right (length tail)) [
      | inl within ↦
          from_right-append (digit ∷ mark) rest (right + right / grouping.0)
          (omega (arith, div-monotone right (length tail - 1) grouping.0 (omega arith)))
          ∙ digit-from_right grouping (next ∷ digits) right some within
          ∙ sym (from_right-append (digit ∷ []) tail right within)
      | inr first ↦
          let same : right ≡ length tail = omega arith in
          let groups = ap (λ n. n / grouping.0) same in
          ap (λ n. get_or (digit ∷ mark ++ rest) n 0)
          (let e : suc (length (mark ++ rest)) - 1 - (right + right / grouping.0) ≡ 0 = omega arith in e)
          ∙ ap (λ n. get_or (digit ∷ tail) n 0) (let e : 0 ≡ suc (length tail) - 1 - right = omega arith in e)
    ]

-- before any number of whole groups is a separator
pub mark-from_right : (grouping : ℕ × ℕ) (digits : List ℕ) (groups : ℕ)
    → 0 < grouping.0 → 1 ≤ groups → groups * grouping.0 < length digits
    → from_right (in_groups grouping digits) (groups * grouping.0 + groups - 1) ≡ grouping.1
mark-from_right grouping [] groups some any inside = absurd (omega arith)
mark-from_right grouping (digit ∷ []) groups some any inside = absurd (omega (arith, mul-le-mul_left groups some))
mark-from_right grouping (digit ∷ next ∷ digits) groups some any inside =
    let tail = next ∷ digits in
    let rest = in_groups grouping tail in
    let rest_long = length-in_groups grouping tail some in
    elim (cases_lt (groups * grouping.0) (length tail)) [
      | inl within ↦
          from_right-append (digit ∷ mark_before grouping (length tail)) rest (groups * grouping.0 + groups - 1)
          (omega (arith, le-div groups (length tail - 1) grouping.0 some (omega arith)))
          ∙ mark-from_right grouping (next ∷ digits) groups some any within
      | inr first ↦
          let same : length tail ≡ groups * grouping.0 = omega arith in
          let whole : length tail % grouping.0 ≡ 0 = ap (λ n. n % grouping.0) same ∙ mul-mod_left groups grouping.0 in
          let count : length tail / grouping.0 ≡ groups = ap (λ n. n / grouping.0) same ∙ mul-div_cancel groups some in
          let mark = mark_before-whole grouping (length tail) whole in
          let marks = length-mark_before grouping (length tail) some (omega arith) in
          let one = ap length mark in
          ap (λ bytes. from_right (digit ∷ bytes ++ rest) (groups * grouping.0 + groups - 1)) mark
          ∙ ap (λ n. get_or (digit ∷ grouping.1 ∷ rest) n 0)
          (let e : suc (suc (length rest)) - 1 - (groups * grouping.0 + groups - 1) ≡ 1 = omega arith in e)
    ]
