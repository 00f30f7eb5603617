-- Bytes in radix 16 have one text.
use Rattle.std.proofs.Common.{refl, ◌≡◌, ℕ, ◌<◌, ◌^◌, List, [], ◌∷◌, ◌∙◌, arith}
use Rattle.lexical_write_integer.proofs.OfDigits.DigitValues.{value_of-lt}
use Rattle.lexical_write_integer.specs.Computed.{padded_text}
use Rattle.lexical_write_integer.specs.Padded.{IsPadded}
use Rattle.lexical_write_integer.specs.Sequence.{AreJoined}
use Rattle.lexical_parts.specs.HexBytes.{hex_bytes_text}
use Rattle.lexical_parts.specs.Length.{IsOnly}
use Rattle.lexical_parts.proofs.Equations.{only_padded}

-- every text of a number in two digits in radix 16 is the computed one
one_byte : (byte : ℕ) (text : List ℕ) → IsPadded 16 2 byte text → text ≡ padded_text 16 2 byte
one_byte byte text is =
    let low = value_of-lt 16 is.digits is.block.below_radix in
    let small : byte < 16 ^ 2 = rw (is.block.value, is.block.counted) at low in
    (only_padded 16 2 byte (omega arith) small).only text is

-- bytes in two digits each, with a separator between them, have the computed text
pub hex_bytes_computed : (separator bytes text : List ℕ) → AreJoined (IsPadded 16 2) separator bytes text
    → text ≡ hex_bytes_text separator bytes
hex_bytes_computed separator [] text is = is
hex_bytes_computed separator (byte ∷ []) text is = one_byte byte text is
hex_bytes_computed separator (byte ∷ next ∷ rest) text is =
    let first = one_byte byte is.first is.is_first in
    let others = hex_bytes_computed separator (next ∷ rest) is.is_second.second is.is_second.is_second in
    is.whole ∙ rw (first, is.is_second.whole, is.is_second.is_first, others) refl

-- bytes in two digits each, with a separator between them, have no text but the computed one
pub only_hex_bytes : (separator bytes : List ℕ)
    → IsOnly (AreJoined (IsPadded 16 2) separator bytes) (hex_bytes_text separator bytes)
only_hex_bytes separator bytes = record { only = hex_bytes_computed separator bytes }
