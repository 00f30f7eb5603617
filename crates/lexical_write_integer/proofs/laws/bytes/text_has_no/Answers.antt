use Rattle.std.specs.Prelude.{◌≢◌}
use Rattle.std.proofs.lemmas.List.Elements.{All-append}
use Rattle.lexical_write_integer.proofs.OfTexts.ReadTexts.{bare}
use Rattle.lexical_write_integer.proofs.OfTexts.Separators.{digits_have_no, sign_is_none}
use Rattle.lexical_write_integer.proofs.laws.bytes.text_has_no.Goals as goal

pub returns : goal.returns
returns g c text is =
    rw (bare _ _ text c.requires.groups is)
    (All-append (λ byte. byte ≢ c.args.separator) _ is.digits (sign_is_none _ _ _ c.requires.plus c.requires.minus)
    (digits_have_no _ _ _ is.digits c.in_range.ensures.mantissa.at_most_36 c.requires.other is.magnitude))
