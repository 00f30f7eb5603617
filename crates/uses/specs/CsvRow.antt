-- Rows of numbers.
use Rattle.std.specs.Prelude.{ℕ, ◌+◌, ℤ, List, codes}
use Rattle.lexical_write_integer.specs.Sequence.{AreJoined}
use Rattle.lexical_parts.specs.Joined.{joined_room}
use Rattle.lexical_parts.specs.Sequence.{◌then◌, IsDecimal, IsStr}

-- numbers in decimal, with commas between them
abbrev pub IsRow : List ℤ → List ℕ → Type 0
IsRow = AreJoined IsDecimal (codes ",")

-- the room of a row: 20 bytes for each number, and the commas
abbrev pub row_room : List ℤ → ℕ
row_room = joined_room (λ _. 20) 1

-- numbers in decimal in brackets, with a comma and a space between them
abbrev pub IsList : List ℤ → List ℕ → Type 0
IsList numbers = IsStr "[" then AreJoined IsDecimal (codes ", ") numbers then IsStr "]"

-- the room of a list: 20 bytes for each number, 2 for each separator, and the brackets
abbrev pub list_room : List ℤ → ℕ
list_room numbers = 1 + (joined_room (λ _. 20) 2 numbers + 1)

-- a number in decimal and a semicolon after it
abbrev pub IsEntry : ℤ → List ℕ → Type 0
IsEntry number = IsDecimal number then IsStr ";"
