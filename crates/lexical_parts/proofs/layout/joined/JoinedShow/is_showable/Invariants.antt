use Rattle.std.proofs.Common.{take}
use Rattle.std.specs.List.{All}
use Rattle.std.specs.Option.{IfSome}
use Rattle.lexical_parts.specs.Length.{IsOnly}
use Rattle.lexical_parts.proofs.layout.joined.JoinedShow.is_showable.Given as goal

-- the parts so far are valid, their texts are UTF-8, and the prover computes them
abbrev pub invariant-loop-part : goal.invariant-loop-part
invariant-loop-part g l = record {
  valid : All g.P.Part.is_valid (take l.part-index l.self.0.now);
  utf8 : All g.P.Part.is_utf8 (take l.part-index l.self.0.now);
  only : All (λ part. IfSome (g.P.Show.text part) (λ bytes. IsOnly (g.P.Part.is_text part) bytes))
      (take l.part-index l.self.0.now);
}
