use Rattle.lexical_parts.proofs.OfFormatting.ShownParts.{written_in_one_piece}
use Rattle.lexical_parts.proofs.numbers.digits.InRadixShow.write_pieces.Goals as goal

pub returns : goal.returns
returns g c = λ ok.
    written_in_one_piece _ _ _ _ _ c.to_str.ensures.text (c.write_str.ensures.ok ok)
