use Rattle.std.proofs.Common.{refl, rules}
use Rattle.lexical_parts.proofs.OfTexts.CutTexts.{cut_closed}
use Rattle.lexical_parts.proofs.formatting.cut.write_first_chars.Goals as goal

pub returns : goal.returns
returns g c =
    let some = c.in_ok-write_pieces.ensures refl in
    let closed = cut_closed g.O.Write.write_str_gives (λ t. t.out) (λ t. t.left) _ _ _ some.wrote in
    let name = closed.0 in
    let wrote = closed.2 in
    (some.text, some.is, search rules, closed.3)
