-- Bytes in radix 16 as the prover computes their text.
use Rattle.std.specs.Prelude.{ℕ, List, [], ◌∷◌, ◌++◌}
use Rattle.lexical_write_integer.specs.Computed.{padded_text}

-- the two digits of each byte, with the separator between adjacent bytes
abbrev pub hex_bytes_text : List ℕ → List ℕ → List ℕ
hex_bytes_text separator [] = []
hex_bytes_text separator (byte ∷ []) = padded_text 16 2 byte
hex_bytes_text separator (byte ∷ next ∷ rest) =
    padded_text 16 2 byte ++ (separator ++ hex_bytes_text separator (next ∷ rest))
