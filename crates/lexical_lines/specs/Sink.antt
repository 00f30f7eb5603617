-- What a call of a sink did, as its result shows.
use Rattle.std.specs.Prelude.{◌≡◌, ℕ, zero, suc, ◌<◌, List, [], ◌∷◌, ◌++◌, length, Result, Ok, Err}

-- the number of bytes that the call took
abbrev pub taken_by : {E : Type 0} → Result ℕ E → ℕ
taken_by (Ok count) = count
taken_by (Err e) = 0

-- the number of failures of the call: 1 for an error, or if the call took no bytes and there were some to take
abbrev pub put_failures : {E : Type 0} → Result ℕ E → List ℕ → ℕ
put_failures (Ok zero) (byte ∷ bytes) = 1
put_failures (Ok zero) [] = 0
put_failures (Ok (suc count)) bytes = 0
put_failures (Err e) bytes = 1

-- the part is a proper prefix of the whole, as what a sink has taken if it fails
abbrev pub IsBeginning : List ℕ → List ℕ → Type 0
IsBeginning part whole = (rest : List ℕ) × (0 < length rest) × (whole ≡ part ++ rest)
