-- Texts in lowercase as the prover computes them.
use Rattle.std.specs.Prelude.{ℕ, List, map, Option, Some, None}
use Rattle.std.specs.Char.{to_ascii_lowercase}

-- the text with `A` to `Z` as `a` to `z`
abbrev pub lower_text : Option (List ℕ) → Option (List ℕ)
lower_text None = None
lower_text (Some text) = Some (map to_ascii_lowercase text)
