-- The ranges and the names of the integer types.
use Rattle.std.proofs.Common.{◌≡◌, ℕ, ◌^◌, ◌<◌, Bool, List, ◌∷◌, ◌++◌, arith}
use Rattle.lexical_lines.specs.declared.request.integer_type.IntegerType.{IntegerType}
use Rattle.lexical_lines.specs.IntegerType.{name_of, Holds}

-- ---- ranges, as bounds on magnitudes

-- every magnitude fits in 64 bits
pub Holds-lt : (kind : IntegerType) (minus : Bool) (n : ℕ) → Holds kind minus n → n < 2 ^ 64
Holds-lt kind minus n h = grind arith

-- ---- two names that a space ends are the same

-- a text begins with the name of at most one type and a space
pub name_unique : (kind other : IntegerType) (rest more : List ℕ)
    → name_of kind ++ 32 ∷ rest ≡ name_of other ++ 32 ∷ more
    → (kind ≡ other) × (rest ≡ more)
name_unique kind other rest more e = grind arith
