use Rattle.lexical_parts.proofs.OfFormatting.ShownParts.{written_in_one_piece}
use Rattle.lexical_parts.proofs.show.write_in_one_piece.Goals as goal

pub returns : goal.returns
returns g c = λ ok.
    let wrote : g.O.Write.write_str_gives c.args.out.now c.to_str.result.now c.write_str.new.self =
    c.write_str.ensures.ok ok in
    written_in_one_piece _ _ _ _ _ c.to_str.ensures.text wrote
