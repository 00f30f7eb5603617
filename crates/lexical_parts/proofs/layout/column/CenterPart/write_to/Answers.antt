use Rattle.lexical_parts.proofs.OfLayout.Columns.{written_center}
use Rattle.lexical_parts.proofs.layout.column.CenterPart.write_to.Goals as goal

pub returns-clause-text : goal.returns-clause-text
returns-clause-text g c =
    written_center _ c.write_to-count.ensures.text c.saturating_sub-added.ensures c.insert_fill.ensures
    c.write_fill.ensures
