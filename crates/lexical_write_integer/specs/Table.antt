-- Tables of the pairs of digits of a radix.
use Rattle.std.specs.Prelude.{◌≡◌, ℕ, ◌*◌, List, take}
use Rattle.lexical_tables.specs.Pairs.{pairs}

-- the table begins with the pairs of the radix
pub record BeginsWithPairs (r : ℕ) (table : List ℕ) : Type 0 where
  pub first : take (2 * (r * r)) table ≡ pairs r
