-- Amounts of money as in accounts.
use Rattle.std.specs.Prelude.{ℕ, List, [], codes, ℤ, pos, negsuc, unsigned_abs}
use Rattle.lexical_write_integer.specs.Sequence.{IsExactly}
use Rattle.lexical_parts.specs.Fixed.{IsFixed}
use Rattle.lexical_parts.specs.Sequence.{◌then◌}

-- what is before and after an amount: parentheses if it is below 0
abbrev pub before : ℤ → List ℕ
before (pos n) = []
before (negsuc n) = codes "("

abbrev pub after : ℤ → List ℕ
after (pos n) = []
after (negsuc n) = codes ")"

-- cents with a point, in parentheses if they are below 0: `(12.34)` for -1234
abbrev pub IsAccounted : ℤ → List ℕ → Type 0
IsAccounted cents = IsExactly (before cents) then IsFixed 2 (pos (unsigned_abs cents)) then IsExactly (after cents)
