use Rattle.lexical_parts.proofs.OfFormatting.ShownParts.{written_in_one_piece}
use Rattle.lexical_parts.proofs.texts.bytes.BytesShow.write_pieces.Goals as goal

pub returns-in-Ok : goal.returns-in-Ok
returns-in-Ok g c = λ ok. written_in_one_piece _ _ _ _ _ c.in-Ok.ensures.cases.0 (c.write_str.ensures.ok ok)
