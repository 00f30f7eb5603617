-- Texts that are padded with copies of a byte to the width of a column.
use Rattle.std.specs.Prelude.{◌≡◌, ℕ, ◌-◌, ◌/◌, List, ◌++◌, length, replicate, Option, Some, None}

-- a text that satisfies `Is`, and the byte after it up to the width
pub record IsAtLeft (width fill : ℕ) (Is : List ℕ → Type 0) (text : List ℕ) : Type 0 where
  pub cell : List ℕ
  pub is : Is cell
  pub whole : text ≡ cell ++ replicate (width - length cell) fill

-- the byte up to the width, and then a text that satisfies `Is`
pub record IsAtRight (width fill : ℕ) (Is : List ℕ → Type 0) (text : List ℕ) : Type 0 where
  pub cell : List ℕ
  pub is : Is cell
  pub whole : text ≡ replicate (width - length cell) fill ++ cell

-- half of the copies, rounded down, then a text that satisfies `Is`, and then the other copies
pub record IsCentered (width fill : ℕ) (Is : List ℕ → Type 0) (text : List ℕ) : Type 0 where
  pub cell : List ℕ
  pub is : Is cell
  pub whole : text ≡ (replicate ((width - length cell) / 2) fill ++ cell)
      ++ replicate (width - length cell - (width - length cell) / 2) fill

-- the same texts as the prover computes them
abbrev pub left_text : ℕ → ℕ → Option (List ℕ) → Option (List ℕ)
left_text width fill None = None
left_text width fill (Some cell) = Some (cell ++ replicate (width - length cell) fill)

abbrev pub right_text : ℕ → ℕ → Option (List ℕ) → Option (List ℕ)
right_text width fill None = None
right_text width fill (Some cell) = Some (replicate (width - length cell) fill ++ cell)

abbrev pub centered_text : ℕ → ℕ → Option (List ℕ) → Option (List ℕ)
centered_text width fill None = None
centered_text width fill (Some cell) = Some ((replicate ((width - length cell) / 2) fill ++ cell)
    ++ replicate (width - length cell - (width - length cell) / 2) fill)
