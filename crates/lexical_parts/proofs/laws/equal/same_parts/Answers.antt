use Rattle.std.proofs.Common.{sym, ◌∙◌}
use Rattle.lexical_parts.proofs.OfLayout.Splits.{same_parts}
use Rattle.lexical_parts.proofs.laws.equal.same_parts.Goals as goal

pub returns-clause-first : goal.returns-clause-first
returns-clause-first g c text s t =
    (same_parts text s t (c.requires.a _ s.is_first ∙ sym (c.requires.b _ t.is_first))).0

pub returns-clause-second : goal.returns-clause-second
returns-clause-second g c text s t =
    (same_parts text s t (c.requires.a _ s.is_first ∙ sym (c.requires.b _ t.is_first))).1
