-- What a call of a source did, as its result shows.
use Rattle.std.specs.Prelude.{ℕ, zero, suc, Bool, true, false, List, [], ◌∷◌, Option, Some, None, Result, Ok, Err}

-- the bytes that the call yielded
abbrev pub yielded_by : {E : Type 0} → Result (Option ℕ) E → List ℕ
yielded_by (Ok (Some byte)) = byte ∷ []
yielded_by (Ok None) = []
yielded_by (Err e) = []

-- whether the call reported the end
abbrev pub reports_end : {E : Type 0} → Result (Option ℕ) E → Bool
reports_end (Ok None) = true
reports_end (Ok (Some byte)) = false
reports_end (Err e) = false

-- whether a read of a block reported the end
abbrev pub reads_end : {E : Type 0} → Result ℕ E → Bool
reads_end (Ok zero) = true
reads_end (Ok (suc count)) = false
reads_end (Err e) = false

-- the number of failures of the call: 1 for an error
abbrev pub failures_of : {A E : Type 0} → Result A E → ℕ
failures_of (Ok a) = 0
failures_of (Err e) = 1
