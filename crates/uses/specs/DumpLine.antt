-- Lines of a memory dump.
use Rattle.std.specs.Prelude.{ℕ, nat_lt, if◌then◌else◌, List, codes, length, slice_index, take, drop, ◌≡◌, ◌<◌}
use Rattle.lexical_write_integer.specs.Padded.{IsPadded}
use Rattle.lexical_write_integer.specs.Sequence.{IsExactly, AreJoined}
use Rattle.lexical_parts.specs.Sequence.{◌then◌, IsStr}

-- an address in eight hexadecimal digits, and bytes in two each: `0000C0DE: 01 23 AB FF 00 00 00 00`
abbrev pub IsDumpLine : ℕ → List ℕ → List ℕ → Type 0
IsDumpLine address bytes =
    IsPadded 16 8 address then IsStr ": " then AreJoined (IsPadded 16 2) (codes " ") bytes then IsStr "\n"

-- a byte if it is a printable ASCII character, and otherwise a `.`
abbrev pub shown : ℕ → ℕ
shown byte = if nat_lt 31 byte then (if nat_lt byte 127 then byte else 46) else 46

-- the characters of the bytes
abbrev pub AreShown : List ℕ → List ℕ → Type 0
AreShown bytes text =
    (length text ≡ length bytes)
    × ((i : ℕ) → i < length bytes → slice_index text i ≡ shown (slice_index bytes i))

-- an offset, sixteen bytes in two groups, and their characters between bars
abbrev pub IsHexdumpLine : ℕ → List ℕ → List ℕ → List ℕ → Type 0
IsHexdumpLine offset bytes characters =
    IsPadded 16 8 offset then IsStr "  " then AreJoined (IsPadded 16 2) (codes " ") (take 8 bytes)
    then IsStr "  " then AreJoined (IsPadded 16 2) (codes " ") (drop 8 bytes)
    then IsStr "  |" then IsExactly characters then IsStr "|\n"
