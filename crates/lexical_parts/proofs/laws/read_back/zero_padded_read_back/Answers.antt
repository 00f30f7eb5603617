use Rattle.lexical_write_integer.proofs.OfTexts.ReadTexts.{are_read}
use Rattle.lexical_parts.proofs.OfNumbers.ZeroReads.{zero_padded_read}
use Rattle.lexical_parts.proofs.laws.read_back.zero_padded_read_back.Goals as goal

pub returns : goal.returns
returns g c =
    let range = c.in_range.ensures.mantissa in
    are_read _ _ _ range.at_most_36 _
    (λ text is. zero_padded_read _ _ _ text c.requires range.at_least_two range.at_most_36 is)
