use Rattle.std.proofs.Common.{take}
use Rattle.lexical_parts.specs.Joined.{AreEach}
use Rattle.lexical_parts.specs.Length.{HasLength}
use Rattle.lexical_parts.proofs.layout.joined.JoinedPart.text_len.Given as goal

-- the length of the texts of the parts so far
abbrev pub invariant-loop-part : goal.invariant-loop-part
invariant-loop-part g l = HasLength (AreEach g.P.Part.is_text (take l.part-index l.self.0.now)) l.count
