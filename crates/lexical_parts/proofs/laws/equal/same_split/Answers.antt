use Rattle.lexical_parts.proofs.OfLayout.Splits.{same_split}
use Rattle.lexical_parts.proofs.laws.equal.same_split.Goals as goal

pub returns-clause-first : goal.returns-clause-first
returns-clause-first g c text s t = (same_split _ c.requires.a c.requires.b text s t).0

pub returns-clause-second : goal.returns-clause-second
returns-clause-second g c text s t = (same_split _ c.requires.a c.requires.b text s t).1
