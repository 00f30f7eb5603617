-- The digits of a UUID, in uppercase.
use Rattle.std.specs.Prelude.{ℕ, List, [], take, drop}
use Rattle.lexical_write_integer.specs.Padded.{IsPadded}
use Rattle.lexical_write_integer.specs.Sequence.{AreJoined}
use Rattle.lexical_parts.specs.Sequence.{◌then◌, IsStr}

-- each byte in two hexadecimal digits
abbrev IsHexadecimal : List ℕ → List ℕ → Type 0
IsHexadecimal bytes = AreJoined (IsPadded 16 2) [] bytes

-- sixteen bytes in five groups of digits: `F81D4FAE-7DEC-11D0-A765-00A0C91E6BF6`
abbrev pub IsUuid : List ℕ → List ℕ → List ℕ → Type 0
IsUuid high low =
    IsHexadecimal (take 4 high) then IsStr "-" then IsHexadecimal (take 2 (drop 4 high))
    then IsStr "-" then IsHexadecimal (drop 6 high) then IsStr "-"
    then IsHexadecimal (take 2 low) then IsStr "-" then IsHexadecimal (drop 2 low)
