-- Texts before a separator, and optional signs.
use Rattle.std.specs.Prelude.{◌≢◌, ℕ, Bool, List, [], ◌∷◌, All, if◌then◌else◌}

-- the text does not contain the separator
abbrev pub Lacks : ℕ → List ℕ → Type 0
Lacks separator text = All (λ byte. byte ≢ separator) text

-- the sign if it is there, otherwise nothing
abbrev pub optional_sign : Bool → ℕ → List ℕ
optional_sign is_there sign = if is_there then sign ∷ [] else []
