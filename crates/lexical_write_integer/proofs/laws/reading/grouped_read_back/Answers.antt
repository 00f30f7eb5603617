use Rattle.std.proofs.Common.{◌∙◌, refl}
use Rattle.lexical_write_integer.proofs.OfTexts.Grouping.Plain.{IsText-without_separators}
use Rattle.lexical_write_integer.proofs.OfTexts.ReadTexts.{are_read, bare, digits_read}
use Rattle.lexical_write_integer.proofs.laws.reading.grouped_read_back.Goals as goal

pub returns : goal.returns
returns g c =
    let valid = c.in_range.ensures in
    let few = valid.mantissa.at_most_36 in
    are_read _ _ c.args.format.now.required_mantissa_sign few _ (λ text is.
    let plain = IsText-without_separators _ _ is.original few valid.groups is.is in
    record {
      digits = plain.digits;
      whole = is.whole ∙ bare _ _ _ refl plain;
      read = digits_read _ _ plain.digits few plain.magnitude;
    })
