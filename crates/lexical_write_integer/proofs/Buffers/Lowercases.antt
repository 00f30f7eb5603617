-- A text in a buffer whose letters are changed to lowercase where they are.
use Rattle.std.proofs.lemmas.Grind.{common_steps}
use Rattle.std.proofs.Common.{◌≡◌, ℕ, List, ◌++◌, map, take, drop, arith}
use Rattle.std.specs.Char.{to_ascii_lowercase}
use Rattle.lexical_write_integer.specs.Buffer.{Writes}
use Rattle.lexical_write_integer.specs.Lowercase.{IsLowercase}

-- if the text at the start of the buffer is changed to lowercase, it is a text of its kind in lowercase
pub written_lower : {Is : List ℕ → Type 0} {before between lower : List ℕ} {count : ℕ} →
    Writes Is before between count → lower ≡ map to_ascii_lowercase (take count between) →
    Writes (IsLowercase Is) before (lower ++ drop count between) count
written_lower {Is} {before} {between} {lower} {count} a is = grind (arith, common_steps)
