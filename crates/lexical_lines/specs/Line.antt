-- The line that is being read.
use Rattle.std.specs.Prelude.{ℕ, List, length, Option, Some, None, nat_le, if◌then◌else◌}
use Rattle.std.specs.Borrow.{Bor}

-- the line if it has at most 64 bytes, otherwise `None`
abbrev pub short_line : List ℕ → Option (List ℕ)
short_line line = if nat_le (length line) 64 then Some line else None

-- the bytes behind the reference, if there is one
abbrev pub bytes_of : Option (Bor (List ℕ)) → Option (List ℕ)
bytes_of None = None
bytes_of (Some bytes) = Some bytes.now
