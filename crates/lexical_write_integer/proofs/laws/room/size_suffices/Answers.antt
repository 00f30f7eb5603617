use Rattle.lexical_write_integer.proofs.OfTexts.SizeBounds.{size_in-le}
use Rattle.lexical_write_integer.proofs.laws.room.size_suffices.Goals as goal

pub returns-clause-size : goal.returns-clause-size
returns-clause-size g c = c.size_suffices_for_type.ensures _ c.in_range.ensures.at_least c.in_range.ensures.at_most

pub returns-clause-buffer : goal.returns-clause-buffer
returns-clause-buffer g c = size_in-le g.met.T.FormattedSize.sizes c.args.format.now
