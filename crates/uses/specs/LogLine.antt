-- A line of a log.
use Rattle.std.specs.Prelude.{ℕ, pos, List}
use Rattle.lexical_write_integer.specs.Text.{IsDigits}
use Rattle.lexical_parts.specs.Sequence.{◌then◌, IsDecimal, IsStr}

-- a count and flags: `12 0xFF`
abbrev pub IsLogLine : ℕ → ℕ → List ℕ → Type 0
IsLogLine count flags = IsDecimal (pos count) then IsStr " 0x" then IsDigits 16 flags then IsStr "\n"
