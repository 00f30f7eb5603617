-- The characters of digits.
use Rattle.std.specs.Prelude.{ℕ, ◌+◌, nat_lt, if◌then◌else◌}

-- the character of a digit below 36: `0` to `9` for a digit below ten, and `A` to `Z` otherwise
abbrev pub digit_char : ℕ → ℕ
digit_char digit = if nat_lt digit 10 then 48 + digit else 55 + digit
