-- A date with a time of day.
use Rattle.std.specs.Prelude.{ℕ, ◌/◌, ◌%◌, List, ℤ, true, unsigned_abs}
use Rattle.lexical_num.specs.Sign.{sign_of}
use Rattle.lexical_write_integer.specs.Padded.{IsPadded}
use Rattle.lexical_write_integer.specs.Sequence.{IsExactly}
use Rattle.lexical_parts.specs.Sequence.{◌then◌, IsStr}
use Rattle.uses.specs.declared.date_time.DateTime.{DateTime}

-- the date and the time as in `2026-11-23T07:05:09`
abbrev pub IsDateTime : DateTime → List ℕ → Type 0
IsDateTime at =
    IsPadded 10 4 at.year then IsStr "-" then IsPadded 10 2 at.month then IsStr "-" then IsPadded 10 2 at.day
    then IsStr "T" then IsPadded 10 2 at.hour then IsStr ":" then IsPadded 10 2 at.minute
    then IsStr ":" then IsPadded 10 2 at.second

-- the date and the time with milliseconds and the offset in minutes, as in `2026-11-23T07:05:09.042+01:00`
abbrev pub IsTimestamp : DateTime → ℕ → ℤ → List ℕ → Type 0
IsTimestamp at millisecond offset =
    IsDateTime at then IsStr "." then IsPadded 10 3 millisecond
    then IsExactly (sign_of offset true) then IsPadded 10 2 (unsigned_abs offset / 60)
    then IsStr ":" then IsPadded 10 2 (unsigned_abs offset % 60)
