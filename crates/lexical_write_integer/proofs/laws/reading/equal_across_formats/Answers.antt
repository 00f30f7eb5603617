use Rattle.std.proofs.Common.{◌∙◌, sym, ap}
use Rattle.std.specs.Str.Parse.{signed_digits_value}
use Rattle.lexical_write_integer.proofs.laws.reading.equal_across_formats.Goals as goal

pub returns : goal.returns
returns g c = λ both.
    sym (c.text_read_back.ensures.signed both.text both.is).value
    ∙ ap (λ r. signed_digits_value r both.text) c.requires.radix
    ∙ (c.text_read_back-2.ensures.signed both.text both.also).value
