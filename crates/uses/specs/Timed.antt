-- Identifiers that begin with a time.
use Rattle.std.specs.Prelude.{ℕ, List}
use Rattle.lexical_write_integer.specs.Padded.{IsPadded}
use Rattle.lexical_parts.specs.Sequence.{◌then◌}

-- the time in nine digits of radix 36, and a number in four
abbrev pub IsTimed : ℕ → ℕ → List ℕ → Type 0
IsTimed time number = IsPadded 36 9 time then IsPadded 36 4 number
