-- Texts with zeros after the sign, up to a width.
use Rattle.std.specs.Prelude.{◌≡◌, ℕ, ◌-◌, List, [], ◌∷◌, length, Option, Some, None}
use Rattle.lexical_write_integer.specs.ZerosAfterSign.{with_zeros}

-- a text that satisfies `Is`, with zeros between its sign and its other bytes, up to the width
pub record IsZeroPadded (width : ℕ) (Is : List ℕ → Type 0) (text : List ℕ) : Type 0 where
  pub number : List ℕ
  pub is : Is number
  pub whole : text ≡ with_zeros (width - length number) number

-- the same text as the prover computes it
abbrev pub zero_padded_text : ℕ → Option (List ℕ) → Option (List ℕ)
zero_padded_text width None = None
zero_padded_text width (Some number) = Some (with_zeros (width - length number) number)

-- what is written of a text that comes in pieces, where zeros are still to be added to the piece that begins it
abbrev pub piece_with_zeros : ℕ → List ℕ → List ℕ
piece_with_zeros count [] = []
piece_with_zeros count (byte ∷ rest) = with_zeros count (byte ∷ rest)

-- how many zeros are still to be added after a piece
abbrev pub zeros_after : ℕ → List ℕ → ℕ
zeros_after count [] = count
zeros_after count (_ ∷ _) = 0
