-- Texts with zeros between the sign and the digits.
use Rattle.std.specs.Prelude.{ℕ, ◌==◌, ◌||◌, if◌then◌else◌, List, ◌++◌, take, drop, replicate, get_or}

-- the length of the sign with which a text begins: 1 if its first byte is `-` or `+`, and otherwise 0
abbrev pub sign_length : List ℕ → ℕ
sign_length text = if get_or text 0 0 == 45 || get_or text 0 0 == 43 then 1 else 0

-- the text with this many zeros between its sign and its other bytes
abbrev pub with_zeros : ℕ → List ℕ → List ℕ
with_zeros count text = take (sign_length text) text ++ (replicate count 48 ++ drop (sign_length text) text)
