-- Digits in groups, which are counted from the right. A mark is the separator between two groups.
use Rattle.std.specs.Prelude.{ℕ, ◌-◌, ◌%◌, List, [], ◌∷◌, ◌++◌, length, filter, slice_index}
use Rattle.std.specs.Prelude.{Option, None, Some, not, if◌then◌else◌, ◌==◌}

-- what is between two adjacent digits, for this number of digits to the right: the separator if these are whole groups,
-- and otherwise nothing
abbrev pub mark_before : ℕ × ℕ → ℕ → List ℕ
mark_before grouping right = if right % grouping.0 == 0 then grouping.1 ∷ [] else []

-- the digits, with the separator between two groups
abbrev pub in_groups : ℕ × ℕ → List ℕ → List ℕ
in_groups grouping [] = []
in_groups grouping (digit ∷ []) = digit ∷ []
in_groups grouping (digit ∷ next ∷ digits) =
    digit ∷ mark_before grouping (length (next ∷ digits)) ++ in_groups grouping (next ∷ digits)

-- the digits as a format writes them: in its groups if it has any, and otherwise unchanged
abbrev pub grouped : Option (ℕ × ℕ) → List ℕ → List ℕ
grouped None digits = digits
grouped (Some grouping) digits = in_groups grouping digits

-- a text without the separators between its groups
abbrev pub without_separators : Option (ℕ × ℕ) → List ℕ → List ℕ
without_separators None text = text
without_separators (Some grouping) text = filter (λ byte. not (byte == grouping.1)) text

-- the byte of a text that has this number of bytes to its right
abbrev pub from_right : List ℕ → ℕ → ℕ
from_right text right = slice_index text (length text - 1 - right)
