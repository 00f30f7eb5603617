use Rattle.lexical_parts.proofs.OfLayout.Columns.{written_right}
use Rattle.lexical_parts.proofs.layout.column.RightPart.write_to.Goals as goal

pub returns-clause-text : goal.returns-clause-text
returns-clause-text g c = written_right c.write_to-count.ensures.text c.saturating_sub-added.ensures
    c.insert_fill.ensures
