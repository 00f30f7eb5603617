-- Texts in lowercase.
use Rattle.std.specs.Prelude.{◌≡◌, ℕ, List, map}
use Rattle.std.specs.Char.{to_ascii_lowercase}

-- a text that satisfies `Is`, with `A` to `Z` as `a` to `z` and every other byte unchanged
pub record IsLowercase (Is : List ℕ → Type 0) (text : List ℕ) : Type 0 where
  pub original : List ℕ
  pub is : Is original
  pub whole : text ≡ map to_ascii_lowercase original
