-- The exit status of the program.
use Rattle.std.specs.Prelude.{ℕ, Bool, true, false, Result, Ok, Err}

-- 2 if a device or the last flush failed; otherwise 1 if a line is invalid; otherwise 0
abbrev pub status_of : {E : Type 0} → Result Bool E → Bool → ℕ
status_of (Err e) flushed = 2
status_of (Ok all_valid) false = 2
status_of (Ok true) true = 0
status_of (Ok false) true = 1
