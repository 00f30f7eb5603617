-- What a crate that writes texts names in its root file, as `#![tactic(auto, using(..))]`.
use Rattle.std.proofs.lemmas.Int.{to_z-of_z}
use Rattle.lexical_write_integer.proofs.Sequences.{written_then}
use Rattle.lexical_parts.proofs.OfLayout.Lists.{added_each, written_each}

-- texts one after another, the texts of elements in a loop, and signed numbers
pub ruleset callers = (written_then, added_each, written_each, to_z-of_z)
