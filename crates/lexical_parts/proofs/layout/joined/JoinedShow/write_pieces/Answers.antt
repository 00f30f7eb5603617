use Rattle.std.proofs.Common.{refl}
use Rattle.std.proofs.Output.{writes_in_calls_single}
use Rattle.lexical_parts.proofs.OfLayout.Rooms.{leads_at}
use Rattle.lexical_parts.proofs.OfFormatting.ShownParts.{WritesSome-joined}
use Rattle.lexical_parts.proofs.layout.joined.JoinedShow.write_pieces.Goals as goal

pub loop-index-preserved : goal.loop-index-preserved
loop-index-preserved g c =
    let separator = c.args.self.1.now in
    let led = writes_in_calls_single _ _ _ _ (rw c.separator_before.ensures at (c.in_ok-write_str.ensures.ok refl)) in
    WritesSome-joined _ g.P.Part.is_text separator _ c.args.self.0.now _ _ _ _ c.loop-index-test.true c.part-item.is
    (leads_at separator c.loop-index.index) c.loop-index.invariant led (c.in_ok-write_pieces.ensures refl)
