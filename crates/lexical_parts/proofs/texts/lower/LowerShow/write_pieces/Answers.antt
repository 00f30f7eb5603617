use Rattle.std.proofs.Common.{map, refl, rules}
use Rattle.std.specs.Char.{to_ascii_lowercase}
use Rattle.lexical_parts.proofs.OfFormatting.ShownParts.{lowering_closed}
use Rattle.lexical_parts.proofs.texts.lower.LowerShow.write_pieces.Goals as goal

pub returns : goal.returns
returns g c = λ ok.
    let some = c.write_pieces-result.ensures ok in
    let closed = lowering_closed g.O.Write.write_str_gives (λ t. t.out) _ _ _ some.wrote in
    let name = closed.0 in
    let wrote = closed.1 in
    record {
      text = map to_ascii_lowercase some.text;
      is = record { original = some.text; is = some.is; whole = refl };
      wrote = search rules;
    }
