-- The sign of a number.
use Rattle.std.specs.Prelude.{Bool, List, ℕ, [], ◌∷◌, ℤ, pos, negsuc, if◌then◌else◌}

-- `-` for a number below 0; otherwise `+` if a sign is required, and nothing if not
abbrev pub sign_of : ℤ → Bool → List ℕ
sign_of (negsuc _) required = 45 ∷ []
sign_of (pos _) required = if required then 43 ∷ [] else []
