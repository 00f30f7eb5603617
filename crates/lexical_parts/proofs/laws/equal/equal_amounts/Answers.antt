use Rattle.lexical_parts.proofs.OfLayout.Splits.{same_before}
use Rattle.lexical_parts.proofs.laws.equal.equal_amounts.Goals as goal

pub returns : goal.returns
returns g c text s t = c.equal_fixed.ensures (same_before _ text s t)
