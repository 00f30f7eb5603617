-- The words for the two values of a `bool`.
use Rattle.std.specs.Prelude.{ℕ, Bool, true, false, List, codes}

-- the bytes of the word
abbrev pub word : Bool → List ℕ
word true = codes "true"
word false = codes "false"
