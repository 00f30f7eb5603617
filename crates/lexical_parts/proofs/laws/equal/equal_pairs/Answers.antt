use Rattle.lexical_parts.proofs.OfLayout.Splits.{same_split}
use Rattle.lexical_parts.proofs.laws.equal.equal_pairs.Goals as goal

pub returns-clause-first : goal.returns-clause-first
returns-clause-first g c text s t =
    c.equal_texts.ensures (same_split _ c.text_has_no.ensures c.text_has_no-2.ensures text s t).0

pub returns-clause-second : goal.returns-clause-second
returns-clause-second g c text s t =
    c.equal_texts-2.ensures (same_split _ c.text_has_no.ensures c.text_has_no-2.ensures text s t).1
