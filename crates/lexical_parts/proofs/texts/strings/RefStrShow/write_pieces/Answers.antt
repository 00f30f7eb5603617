use Rattle.std.proofs.Common.{refl}
use Rattle.lexical_parts.proofs.OfFormatting.ShownParts.{written_in_one_piece}
use Rattle.lexical_parts.proofs.texts.strings.RefStrShow.write_pieces.Goals as goal

pub returns : goal.returns
returns g c = λ ok. written_in_one_piece _ _ _ _ _ refl (c.write_str.ensures.ok ok)
