use Rattle.lexical_parts.proofs.OfLayout.EqualWidths.{starts_at}
use Rattle.lexical_parts.proofs.laws.positions.part_starts_at.Goals as goal

pub returns : goal.returns
returns g c text is = starts_at _ _ _ _ text c.requires is _
