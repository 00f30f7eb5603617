use Rattle.std.proofs.lemmas.Grind.{common_steps}
use Rattle.std.proofs.Common.{arith, take}
use Rattle.std.proofs.lemmas.List.{take_more, take_all}
use Rattle.lexical_parts.proofs.OfTexts.Lengths.{each_more, joined_length}
use Rattle.lexical_parts.proofs.layout.joined.JoinedPart.text_len.Goals as goal

pub loop-part-preserved : goal.loop-part-preserved
loop-part-preserved g c =
    let longer = take_more c.args.self.0.now _ c.part-item.result c.loop-part-test.true in
    let one = each_more g.P.Part.is_text (take c.loop-part.part-index c.args.self.0.now)
    c.part-item.result c.loop-part.count c.in_ok-text_len.field-0 c.loop-part.invariant in
    rw longer (grind (arith, common_steps, one))

pub returns : goal.returns
returns g c =
    let whole = joined_length g.P.Part.is_text c.args.self.1.now c.args.self.0.now c.loop-part.count in
    let all = take_all c.loop-part.part-index c.args.self.0.now c.loop-part-test.false in
    let each = rw all at c.loop-part.invariant in
    grind (arith, common_steps, whole, each)
