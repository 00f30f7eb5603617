use Rattle.lexical_parts.proofs.OfLayout.Splits.{same_before}
use Rattle.lexical_parts.proofs.laws.equal.same_before.Goals as goal

pub returns : goal.returns
returns g c text s t = same_before _ text s t
