use Rattle.lexical_write_integer.proofs.OfTexts.ReadTexts.{are_read, bare, digits_read}
use Rattle.lexical_write_integer.proofs.laws.reading.text_read_back.Goals as goal

pub returns : goal.returns
returns g c =
    let few = c.in_range.ensures.mantissa.at_most_36 in
    are_read _ _ c.args.format.now.required_mantissa_sign few _ (λ text is. record {
      digits = is.digits;
      whole = bare _ _ text c.requires is;
      read = digits_read _ _ is.digits few is.magnitude;
    })
