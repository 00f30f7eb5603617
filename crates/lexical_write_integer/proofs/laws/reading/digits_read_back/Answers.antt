use Rattle.std.proofs.Common.{false, refl}
use Rattle.lexical_write_integer.proofs.OfTexts.ReadTexts.{are_read, digits_read}
use Rattle.lexical_write_integer.proofs.laws.reading.digits_read_back.Goals as goal

pub returns : goal.returns
returns c =
    let few = c.requires.at_most_36 in
    are_read _ _ false few _ (λ text is. record { digits = text; whole = refl; read = digits_read _ _ text few is })
