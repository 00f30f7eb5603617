-- Words for texts in a row, as contracts write them.
use Prim.Native.String.{String}
use Rattle.std.specs.Prelude.{ℕ, List, ℤ, codes}
use Rattle.lexical_num.specs.Format.{standard}
use Rattle.lexical_write_integer.specs.Sequence.{IsExactly, Then}
use Rattle.lexical_write_integer.specs.Text.{IsText}

-- a text that satisfies `IsFirst`, followed by one that satisfies `IsSecond`
infixr 5 ◌then◌
abbrev pub ◌then◌ : (List ℕ → Type 0) → (List ℕ → Type 0) → List ℕ → Type 0
IsFirst then IsSecond = Then IsFirst IsSecond

-- exactly the characters of a literal, which are its bytes if it is ASCII
abbrev pub IsStr : String → List ℕ → Type 0
IsStr literal = IsExactly (codes literal)

-- the text of a number in decimal
abbrev pub IsDecimal : ℤ → List ℕ → Type 0
IsDecimal number = IsText number standard
