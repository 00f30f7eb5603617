-- The parts of a format, which `src/format.rt` lists, and when they are valid.
use Rattle.std.specs.Prelude.{ℕ, false, Option, None, Some, ◌+◌, ◌-◌, ◌/◌, ◌≤◌, ◌≢◌}
use Rattle.std.specs.Char.{IsNotAsciiAlphanumeric}
use Rattle.std.specs.Option.{ForSome}
use Rattle.lexical_num.specs.declared.format.Parts.{Parts}

-- the parts of a format
abbrev pub Format : Type 0
Format = Parts

-- a radix in which each digit has a character, `0` to `9` or `A` to `Z`
pub record IsRadix (radix : ℕ) : Type 0 where
  pub at_least_two : 2 ≤ radix
  pub at_most_36 : radix ≤ 36

-- a number of digits that a group can have
pub record IsGroupSize (size : ℕ) : Type 0 where
  pub at_least_one : 1 ≤ size
  pub at_most_64 : size ≤ 64

-- a byte that can separate two groups, called a mark: from the space to `~`, but not a letter, a digit or a sign
pub record IsMark (mark : ℕ) : Type 0 where
  pub at_least_space : 32 ≤ mark
  pub at_most_tilde : mark ≤ 126
  pub no_letter_or_digit : IsNotAsciiAlphanumeric mark
  pub no_plus : mark ≢ 43
  pub no_minus : mark ≢ 45

-- a valid grouping: the number of digits of a group, and the separator between two groups
pub record IsGrouping (grouping : ℕ × ℕ) : Type 0 where
  pub size : IsGroupSize grouping.0
  pub mark : IsMark grouping.1

-- a format whose radices and groups are valid
pub record IsValid (format : Format) : Type 0 where
  pub mantissa : IsRadix format.mantissa_radix
  pub exponent : IsRadix format.exponent_radix
  pub groups : ForSome format.digit_grouping IsGrouping

-- decimal, with no `+` and no groups
abbrev pub standard : Format
standard = record { mantissa_radix = 10; exponent_radix = 10; required_mantissa_sign = false; digit_grouping = None }

-- a format without its groups
abbrev pub without_groups : Format → Format
without_groups format = record format { digit_grouping = None }

-- the number of bytes that `count` digits take: in groups, a separator precedes each group but the first
abbrev pub grouped_length : Option (ℕ × ℕ) → ℕ → ℕ
grouped_length None count = count
grouped_length (Some grouping) count = count + (count - 1) / grouping.0
