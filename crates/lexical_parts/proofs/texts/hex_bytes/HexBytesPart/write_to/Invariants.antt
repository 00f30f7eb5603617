use Rattle.std.proofs.Common.{◌≤◌, length, take}
use Rattle.lexical_write_integer.specs.Buffer.{Writes}
use Rattle.lexical_write_integer.specs.Padded.{IsPadded}
use Rattle.lexical_write_integer.specs.Sequence.{AreJoined}
use Rattle.lexical_parts.specs.Joined.{joined_room}
use Rattle.lexical_parts.proofs.texts.hex_bytes.HexBytesPart.write_to.Given as goal

-- the bytes so far are written, each in two digits
abbrev pub invariant-loop-index : goal.invariant-loop-index
invariant-loop-index l = record {
  written : Writes (AreJoined (IsPadded 16 2) l.self.1.now (take l.index l.self.0.now))
      l.initial.buffer l.buffer l.count;
  within : l.count ≤ joined_room (λ _. 2) (length l.self.1.now) (take l.index l.self.0.now);
}
