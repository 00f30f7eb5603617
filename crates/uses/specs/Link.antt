-- The link of a counter.
use Rattle.std.specs.Prelude.{ℕ, List}
use Rattle.lexical_write_integer.specs.Padded.{IsPadded}
use Rattle.lexical_write_integer.specs.Text.{IsDigits}
use Rattle.lexical_parts.specs.Sequence.{◌then◌, IsStr}

-- the counter in radix 36 after a folder: `/l/RS` for 1000
abbrev pub IsLink : ℕ → List ℕ → Type 0
IsLink counter = IsStr "/l/" then IsDigits 36 counter

-- `/u/`, and then the number in eight digits in radix 36
abbrev pub IsUserLink : ℕ → List ℕ → Type 0
IsUserLink number = IsStr "/u/" then IsPadded 36 8 number
