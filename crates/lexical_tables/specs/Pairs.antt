-- The table of a radix: the characters of the two digits of each number below its square.
use Rattle.std.specs.Prelude.{ℕ, ◌*◌, ◌/◌, ◌%◌, List, [], ◌∷◌}
use Rattle.std.specs.List.{flat_map, range_with_len}
use Rattle.lexical_num.specs.Digit.{digit_char}

-- the characters of the two digits of a number below the square of the radix
abbrev pub pair : ℕ → ℕ → List ℕ
pair radix number = digit_char (number / radix) ∷ digit_char (number % radix) ∷ []

-- the pairs of the numbers 0, 1, .. below the square of the radix
unfoldable pub pairs : ℕ → List ℕ
pairs radix = flat_map (pair radix) (range_with_len 0 (radix * radix))
