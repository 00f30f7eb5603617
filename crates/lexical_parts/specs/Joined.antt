-- The texts of the elements of a list, and the room of elements with a separator between them.
use Rattle.std.specs.Prelude.{ℕ, zero, suc, ◌+◌, ◌-◌, ◌*◌, List, [], ◌∷◌, length, sum_by, Option, Some}
use Rattle.std.specs.Fmt.{option_append}
use Rattle.lexical_write_integer.specs.Sequence.{IsExactly}
use Rattle.lexical_parts.specs.Sequence.{◌then◌}

-- a text for each element, in order
abbrev pub AreEach : {A : Type 0} → (A → List ℕ → Type 0) → List A → List ℕ → Type 0
AreEach IsOf [] = IsExactly []
AreEach IsOf (x ∷ xs) = IsOf x then AreEach IsOf xs

-- what precedes the element at the index: nothing before the first one, and otherwise the separator
abbrev pub lead : ℕ → List ℕ → List ℕ
lead zero separator = []
lead (suc index) separator = separator

-- the rooms of the elements, and separators of this length between adjacent elements
abbrev pub joined_room : {A : Type 0} → (A → ℕ) → ℕ → List A → ℕ
joined_room room separator xs = sum_by room xs + (length xs - 1) * separator

-- the texts of the elements as the prover computes them, with the separator between adjacent texts
abbrev pub joined_text : {A : Type 0} → (A → Option (List ℕ)) → List ℕ → List A → Option (List ℕ)
joined_text text separator [] = Some []
joined_text text separator (x ∷ []) = text x
joined_text text separator (x ∷ y ∷ xs) =
    option_append (text x) (option_append (Some separator) (joined_text text separator (y ∷ xs)))
