use Rattle.lexical_parts.proofs.OfNumbers.EqualScientifics.{equal_scientifics}
use Rattle.lexical_parts.proofs.laws.equal.equal_scientific.Goals as goal

pub returns : goal.returns
returns g c = equal_scientifics _ _ _ _
