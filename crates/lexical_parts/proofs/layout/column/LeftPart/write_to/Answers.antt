use Rattle.lexical_parts.proofs.OfLayout.Columns.{written_left}
use Rattle.lexical_parts.proofs.layout.column.LeftPart.write_to.Goals as goal

pub returns-clause-text : goal.returns-clause-text
returns-clause-text g c = written_left _ c.write_to-count.ensures.text
    (rw c.saturating_sub.ensures at c.write_fill.ensures)
