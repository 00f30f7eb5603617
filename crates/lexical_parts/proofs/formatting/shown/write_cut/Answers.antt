use Rattle.std.proofs.Common.{rules}
use Rattle.lexical_parts.proofs.OfFormatting.ShownParts.{through_closed}
use Rattle.lexical_parts.proofs.formatting.shown.write_cut.Goals as goal

pub returns : goal.returns
returns g c = λ flush.
    let some = c.in_ok-left.ensures in
    let closed = through_closed g.W.Write.write_str_gives (λ t. t.f) _ _ _ some.2 in
    let name = closed.0 in
    let styled = closed.1 flush in
    (some.0, some.1, search rules, some.3)
