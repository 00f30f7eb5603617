-- Kinds of texts that are UTF-8.
use Rattle.std.specs.Prelude.{ℕ, List}
use Rattle.std.specs.Str.{IsUtf8}

-- every text of this kind is UTF-8
pub record AreUtf8 (Is : List ℕ → Type 0) : Type 0 where
  pub each : (text : List ℕ) → Is text → IsUtf8 text
