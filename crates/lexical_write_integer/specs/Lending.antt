-- What a writer returns: the first bytes of its buffer, as a mutable slice.
use Rattle.std.specs.Prelude.{ℕ, List, ◌++◌, drop}
use Rattle.std.specs.Borrow.{Lends, MutBor, Fml, Array, u8}

-- when the borrow of the first `count` bytes ends, the buffer is those bytes as the caller left them, and then the
-- bytes after them, unchanged
abbrev pub LendsFront : MutBor (List ℕ) → ℕ → MutBor (List ℕ) → Fml
LendsFront buffer count front = Lends (Array u8 0) (Array u8 0) buffer front (λ left. left ++ drop count buffer.now)
