use Rattle.std.proofs.Common.{◌≡◌, length, refl, rules, arith}
use Rattle.lexical_parts.proofs.OfFormatting.ShownParts.{limited_closed}
use Rattle.lexical_parts.proofs.formatting.limited.write_exactly.Goals as goal

pub returns-then-left-eq0 : goal.returns-then-left-eq0
returns-then-left-eq0 g c = λ _.
    let some = c.in_ok-write_pieces.ensures refl in
    let closed = limited_closed g.O.Write.write_str_gives (λ t. t.out) (λ t. t.left) _ _ _ some.wrote in
    let name = closed.0 in
    let wrote = closed.1 in
    let counted : length some.text ≡ c.args.count = omega (arith, closed.2, c.if-left-eq0.true) in
    record { text = some.text; is = record { is = some.is; counted = counted }; wrote = search rules }
