-- The state of a `Trace` in contracts.
use Rattle.std.specs.Prelude.{ℕ, List}

-- the recorded bytes, in order, those that are not flushed, and the numbers of flushes and of failures
pub record Traced : Type 0 where
  pub bytes : List ℕ
  pub unflushed : List ℕ
  pub flushes : ℕ
  pub failures : ℕ
