use Rattle.std.proofs.Common.{sym, ◌∙◌}
use Rattle.lexical_write_integer.proofs.OfDigits.PaddedDigits.{length-IsPadded}
use Rattle.lexical_parts.proofs.OfLayout.Splits.{same_parts}
use Rattle.lexical_parts.proofs.laws.equal.equal_padded_pairs.Goals as goal

pub returns-clause-first : goal.returns-clause-first
returns-clause-first c text s t =
    c.equal_padded.ensures (same_parts text s t (length-IsPadded _ _ _ _ s.is_first
    ∙ sym (length-IsPadded _ _ _ _ t.is_first))).0

pub returns-clause-second : goal.returns-clause-second
returns-clause-second c text s t =
    c.equal_padded-2.ensures (same_parts text s t (length-IsPadded _ _ _ _ s.is_first
    ∙ sym (length-IsPadded _ _ _ _ t.is_first))).1
