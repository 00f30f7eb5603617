-- The room of the elements of a list with a separator between them.
use Rattle.std.proofs.Common.{◌≡◌, ℕ, ◌+◌, ◌-◌, ◌*◌, ◌<◌, ◌≤◌, List, [], ◌∷◌, length, take, get_or, refl, arith}
use Rattle.std.specs.List.{sum_by}
use Rattle.std.proofs.Math.Nat.{mul-le-mul_right}
use Rattle.std.proofs.lemmas.List.{length-take-le}
use Rattle.std.proofs.lemmas.List.Sums.{sum_by_more, sum_by-cons, sum_by-take-le}
use Rattle.lexical_write_integer.proofs.OfTexts.Joins.{Leads}
use Rattle.lexical_parts.specs.Joined.{joined_room, lead}

-- the separators before one further element
separators_more : (separator lead : List ℕ) (i : ℕ) → Leads separator i lead
    → (i + 1 - 1) * length separator ≡ (i - 1) * length separator + length lead
separators_more separator lead i leads = grind arith

-- what precedes an element
pub leads_at : (separator : List ℕ) (index : ℕ) → Leads separator index (lead index separator)
leads_at separator index = grind arith

-- one further element needs its own room and that of the separator before it
pub joined_room-more : {A : Type 0} (room : A → ℕ) (separator lead : List ℕ) (xs : List A) {i : ℕ} {x : A}
    → i < length xs → x ≡ get_or xs i x
    → Leads separator i lead
    → joined_room room (length separator) (take (i + 1) xs) ≡ joined_room room (length separator) (take i xs)
    + (length lead + room x)
joined_room-more room separator lead xs {i} {x} inside is leads =
    grind (arith, length-take-le, sum_by_more, separators_more)

-- the first elements need at most the room of all
pub joined_room-take-le : {A : Type 0} (room : A → ℕ) (separator : ℕ) (xs : List A) (i : ℕ) → i ≤ length xs
    → joined_room room separator (take i xs) ≤ joined_room room separator xs
joined_room-take-le room separator xs i inside = grind (arith, length-take-le, sum_by-take-le, mul-le-mul_right)

-- elements that each need two bytes
pub two_each : {A : Type 0} (xs : List A) → sum_by {X = A} (λ _. 2) xs ≡ 2 * length xs
two_each [] = refl
two_each (x ∷ xs) = omega (arith, sum_by-cons (λ _. 2) x xs, two_each xs)
