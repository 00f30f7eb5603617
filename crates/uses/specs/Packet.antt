-- Packet lines of Git.
use Rattle.std.specs.Prelude.{ℕ, List, [], length}
use Rattle.lexical_write_integer.specs.Lowercase.{IsLowercase}
use Rattle.lexical_write_integer.specs.Padded.{IsPadded}
use Rattle.lexical_write_integer.specs.Sequence.{AreJoined}
use Rattle.lexical_parts.specs.Sequence.{◌then◌, IsStr}

-- the length of the whole line, and the hash that is wanted
abbrev pub IsWant : List ℕ → List ℕ → Type 0
IsWant hash text =
    (IsPadded 16 4 (length text) then IsStr "want " then IsLowercase (AreJoined (IsPadded 16 2) [] hash)
    then IsStr "\n") text
