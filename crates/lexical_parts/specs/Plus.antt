-- Numbers with a sign in each case.
use Rattle.std.specs.Prelude.{ℕ, ℤ, true, List}
use Rattle.lexical_num.specs.Format.{standard}
use Rattle.lexical_write_integer.specs.Text.{IsText}

-- the text of a number in decimal with a required sign, which is `+` if the number is not negative
abbrev pub IsPlus : ℤ → List ℕ → Type 0
IsPlus number = IsText number (record standard { required_mantissa_sign = true })
