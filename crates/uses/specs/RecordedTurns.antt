-- The loop iterations that calls record.
use Rattle.std.specs.Prelude.{◌≡◌, ℕ, length}
use Rattle.uses.specs.declared.recorded_turns.Recorded.{Recorded}

-- how many iterations are recorded: those of `write_integer`, of the table writer, of the slow digit count, and of the
-- compact writer
abbrev pub HasTurns : Recorded → ℕ → ℕ → ℕ → ℕ → Type 0
HasTurns recorded written table slow compact =
    (length recorded.written ≡ written) × (length recorded.table ≡ table)
    × (length recorded.slow ≡ slow) × (length recorded.compact ≡ compact)
