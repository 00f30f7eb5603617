-- Texts without a byte.
use Rattle.std.specs.Prelude.{◌≡◌, ℕ, List, filter, not, ◌==◌}

-- a text of the kind P without this byte
pub record IsWithout (byte : ℕ) (P : List ℕ → Type 0) (text : List ℕ) : Type 0 where
  pub original : List ℕ
  pub is : P original
  pub whole : text ≡ filter (λ b. not (b == byte)) original
