use Rattle.std.proofs.Common.{◌≤◌, length, take}
use Rattle.std.specs.List.{All}
use Rattle.lexical_write_integer.specs.Buffer.{Writes}
use Rattle.lexical_write_integer.specs.Sequence.{AreJoined}
use Rattle.lexical_parts.specs.Joined.{joined_room}
use Rattle.lexical_parts.specs.Utf8.{AreUtf8}
use Rattle.lexical_parts.proofs.layout.joined.JoinedPart.write_to.Given as goal

-- the parts so far are written, in their room
abbrev pub invariant-loop-index : goal.invariant-loop-index
invariant-loop-index g l = record {
  written : Writes (AreJoined g.P.Part.is_text l.self.1.now (take l.index l.self.0.now))
      l.initial.buffer l.buffer l.count;
  within : l.count ≤ joined_room g.P.Part.room (length l.self.1.now) (take l.index l.self.0.now);
  utf8 : All (λ part. g.P.Part.is_utf8 part → AreUtf8 (g.P.Part.is_text part)) (take l.index l.self.0.now);
}
