-- The text of a part that may be absent.
use Rattle.std.specs.Prelude.{ℕ, List, [], Option, Some, None, ⊤}
use Rattle.lexical_write_integer.specs.Sequence.{IsExactly}

-- the text of the part, or no bytes for `None`
abbrev pub IsOptional : {P : Type 0} → (P → List ℕ → Type 0) → Option P → List ℕ → Type 0
IsOptional IsOf (Some part) = IsOf part
IsOptional IsOf None = IsExactly []

-- the text of the part, or one of another kind for `None`
abbrev pub IsOrElse : {P : Type 0} → (P → List ℕ → Type 0) → (List ℕ → Type 0) → Option P → List ℕ → Type 0
IsOrElse IsOf IsOther (Some part) = IsOf part
IsOrElse IsOf IsOther None = IsOther

-- the part, if there is one, is valid
abbrev pub IsValidOptional : {P : Type 0} → (P → Type 0) → Option P → Type 0
IsValidOptional IsValid (Some part) = IsValid part
IsValidOptional IsValid None = ⊤

-- the text of the part as the prover computes it, or no bytes for `None`
abbrev pub optional_text : {P : Type 0} → (P → Option (List ℕ)) → Option P → Option (List ℕ)
optional_text text (Some part) = text part
optional_text text None = Some []

-- the same, or another text for `None`
abbrev pub or_else_text : {P : Type 0} → (P → Option (List ℕ)) → Option (List ℕ) → Option P → Option (List ℕ)
or_else_text text other (Some part) = text part
or_else_text text other None = other

-- the room of the part, or 0 for `None`
abbrev pub optional_room : {P : Type 0} → (P → ℕ) → Option P → ℕ
optional_room room (Some part) = room part
optional_room room None = 0
