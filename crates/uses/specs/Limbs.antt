-- Integers of several words.
use Rattle.std.specs.Prelude.{ℕ, List}
use Rattle.lexical_write_integer.specs.Padded.{IsPadded}
use Rattle.uses.specs.declared.limb.Limb.{Limb}

-- a limb in nineteen digits
abbrev pub IsLimb : Limb → List ℕ → Type 0
IsLimb limb = IsPadded 10 19 limb.value
