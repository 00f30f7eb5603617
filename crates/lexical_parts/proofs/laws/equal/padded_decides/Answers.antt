use Rattle.std.proofs.Common.{sym, ◌∙◌}
use Rattle.lexical_write_integer.proofs.OfDigits.PaddedDigits.{length-IsPadded}
use Rattle.lexical_write_integer.proofs.OfTexts.Orders.{IsEarlier-IsPadded}
use Rattle.lexical_parts.proofs.OfLayout.Splits.{earlier_before}
use Rattle.lexical_parts.proofs.laws.equal.padded_decides.Goals as goal

pub returns : goal.returns
returns g c below s t p q =
    let earlier = (IsEarlier-IsPadded _ _ _ _ p.first q.first p.is_first q.is_first).0 below in
    let long = length-IsPadded _ _ _ _ p.is_first ∙ sym (length-IsPadded _ _ _ _ q.is_first) in
    rw (p.whole, q.whole) (earlier_before p.first q.first p.second q.second long earlier)
