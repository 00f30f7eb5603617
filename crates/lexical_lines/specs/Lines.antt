-- The lines of an input.
use Rattle.std.specs.Prelude.{◌≡◌, ℕ, ◌<◌, List, [], ◌∷◌, ◌++◌, length, get_or, take, flat_map, All}
use Rattle.lexical_lines.specs.Split.{Lacks}

-- no byte is a newline
abbrev pub NoNewline : List ℕ → Type 0
NoNewline = Lacks 10

-- the byte at the index is a newline, and none before it is
pub record IsFirstNewline (bytes : List ℕ) (index : ℕ) : Type 0 where
  pub within : index < length bytes
  pub newline : get_or bytes index 0 ≡ 10
  pub before : NoNewline (take index bytes)

-- these lines with a newline after each
abbrev pub with_newlines : List (List ℕ) → List ℕ
with_newlines ended = flat_map (λ line. line ++ 10 ∷ []) ended

-- the input is these lines with a newline after each, and then the rest
pub record IsCut (bytes : List ℕ) (ended : List (List ℕ)) (rest : List ℕ) : Type 0 where
  pub whole : bytes ≡ with_newlines ended ++ rest
  pub each : All NoNewline ended
  pub rest_inside : NoNewline rest

-- the rest as a line, or no line if it is empty
abbrev pub rest_line : List ℕ → List (List ℕ)
rest_line [] = []
rest_line (byte ∷ bytes) = (byte ∷ bytes) ∷ []

-- these are all lines of the input: those that end with a newline, and the bytes after the last newline if any
pub record AreLines (bytes : List ℕ) (all : List (List ℕ)) : Type 0 where
  pub ended : List (List ℕ)
  pub rest : List ℕ
  pub cut : IsCut bytes ended rest
  pub are : all ≡ ended ++ rest_line rest

-- the last byte is a newline
abbrev pub EndsLine : List ℕ → Type 0
EndsLine bytes = (front : List ℕ) × (bytes ≡ front ++ 10 ∷ [])
