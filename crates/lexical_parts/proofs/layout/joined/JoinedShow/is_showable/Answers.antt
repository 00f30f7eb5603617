use Rattle.std.proofs.lemmas.List.{take_all}
use Rattle.std.proofs.lemmas.List.Elements.{All-more}
use Rattle.std.specs.Option.{IfSome}
use Rattle.lexical_parts.specs.Length.{IsOnly}
use Rattle.lexical_parts.proofs.OfTexts.OnlyTexts.{joined_only}
use Rattle.lexical_parts.proofs.layout.joined.JoinedShow.is_showable.Goals as goal

pub loop-part-preserved : goal.loop-part-preserved
loop-part-preserved g c =
    let parts = c.args.self.0.now in
    let inside = c.loop-part-test.true in
    let shown = c.is_showable.ensures in
    let known = c.if-not-is_showable.false in
    record {
      valid = All-more g.P.Part.is_valid parts _ c.part-item.result inside c.loop-part.invariant.valid
          (rw (← c.part-item.is) (shown.valid known));
      utf8 = All-more g.P.Part.is_utf8 parts _ c.part-item.result inside c.loop-part.invariant.utf8
          (rw (← c.part-item.is) (shown.utf8 known));
      only = All-more (λ part. IfSome (g.P.Show.text part) (λ bytes. IsOnly (g.P.Part.is_text part) bytes))
          parts _ c.part-item.result inside
          c.loop-part.invariant.only (rw (← c.part-item.is) (shown.only known));
    }

pub returns-clause-valid : goal.returns-clause-valid
returns-clause-valid g c = λ _. rw (take_all c.loop-part.part-index c.args.self.0.now c.loop-part-test.false)
    at c.loop-part.invariant.valid

pub returns-clause-utf8 : goal.returns-clause-utf8
returns-clause-utf8 g c = λ _. rw (take_all c.loop-part.part-index c.args.self.0.now c.loop-part-test.false)
    at c.loop-part.invariant.utf8

pub returns-clause-only : goal.returns-clause-only
returns-clause-only g c = λ _.
    joined_only g.P.Part.is_text g.P.Show.text c.args.self.1.now c.args.self.0.now
    (rw (take_all c.loop-part.part-index c.args.self.0.now c.loop-part-test.false) at c.loop-part.invariant.only)
