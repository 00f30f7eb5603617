-- A measurement.
use Rattle.std.specs.Prelude.{ℕ, ℤ, List}
use Rattle.lexical_write_integer.specs.Text.{IsDigits}
use Rattle.lexical_parts.specs.Fixed.{IsFixed}
use Rattle.lexical_parts.specs.Sequence.{◌then◌, IsStr}
use Rattle.uses.specs.DateTime.{IsDateTime}
use Rattle.uses.specs.declared.date_time.DateTime.{DateTime}

-- the date and time, the weight, and the flags: `2026-11-23T07:05:09 -12.5 kg 0xFF;`
abbrev pub IsMeasurement : DateTime → ℤ → ℕ → List ℕ → Type 0
IsMeasurement at tenths flags =
    IsDateTime at then IsStr " " then (IsFixed 1 tenths then IsStr " kg")
    then IsStr " 0x" then IsDigits 16 flags then IsStr ";"
