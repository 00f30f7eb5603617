use Rattle.lexical_write_integer.specs.Padded.{IsPadded}
use Rattle.lexical_write_integer.proofs.OfDigits.PaddedDigits.{length-IsPadded}
use Rattle.lexical_parts.proofs.OfLayout.EqualWidths.{starts_at}
use Rattle.lexical_parts.proofs.laws.positions.byte_starts_at.Goals as goal

pub returns : goal.returns
returns c text is = starts_at (IsPadded c.args.radix c.args.width) _ _ _ text
    (λ k d l t t-is. length-IsPadded _ _ _ t t-is) is _
