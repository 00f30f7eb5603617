use Rattle.std.proofs.Common.{false, refl}
use Rattle.lexical_write_integer.proofs.OfTexts.ReadTexts.{are_read, padded_read}
use Rattle.lexical_write_integer.proofs.laws.reading.padded_read_back.Goals as goal

pub returns : goal.returns
returns c =
    let few = c.requires.radix.at_most_36 in
    are_read _ _ false few _ (λ text is. record {
      digits = text;
      whole = refl;
      read = padded_read _ _ _ text few c.requires.some is;
    })
