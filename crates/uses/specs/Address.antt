-- An address of a host and a port.
use Rattle.std.specs.Prelude.{ℕ, List, pos}
use Rattle.lexical_parts.specs.Sequence.{◌then◌, IsDecimal, IsStr}

-- `10:80`
abbrev pub IsAddress : ℕ → ℕ → List ℕ → Type 0
IsAddress host port = IsDecimal (pos host) then IsStr ":" then IsDecimal (pos port)
