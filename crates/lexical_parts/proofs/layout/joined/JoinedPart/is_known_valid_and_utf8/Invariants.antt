use Rattle.std.proofs.Common.{take}
use Rattle.std.specs.List.{All}
use Rattle.lexical_parts.proofs.layout.joined.JoinedPart.is_known_valid_and_utf8.Given as goal

-- the parts so far are valid, and their texts are UTF-8
abbrev pub invariant-loop-part : goal.invariant-loop-part
invariant-loop-part g l = record {
  valid : All g.P.Part.is_valid (take l.part-index l.self.0.now);
  utf8 : All g.P.Part.is_utf8 (take l.part-index l.self.0.now);
}
