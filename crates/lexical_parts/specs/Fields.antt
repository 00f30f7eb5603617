-- The bytes at a place of a buffer.
use Rattle.std.specs.Prelude.{ℕ, List, slice_range}

-- the bytes of a buffer from the index `from` on, up to the index `to`. This is `slice_range` as a word that the prover
-- does not compute: of two numbers it computes `slice_range`, and then it no longer finds a fact about these bytes
unfoldable pub bytes_between : List ℕ → ℕ → ℕ → List ℕ
bytes_between buffer from to = slice_range buffer from to
