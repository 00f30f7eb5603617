use Rattle.std.proofs.Common.{rules}
use Rattle.lexical_parts.proofs.OfFormatting.ShownParts.{through_closed}
use Rattle.lexical_parts.proofs.formatting.shown.write_through.Goals as goal

pub returns : goal.returns
returns g c = λ flush ok.
    let some = c.write_pieces-result.ensures ok in
    let closed = through_closed g.W.Write.write_str_gives (λ t. t.f) _ _ _ some.wrote in
    let name = closed.0 in
    let styled = closed.1 flush in
    (some.text, some.is, search rules)
