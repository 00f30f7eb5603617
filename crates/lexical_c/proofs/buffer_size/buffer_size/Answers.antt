use Rattle.std.proofs.Common.{refl, arith, rules}
use Rattle.lexical_write_integer.proofs.OfTexts.SizeBounds.{need-le_size}
use Rattle.lexical_c.specs.Format.{format_of}
use Rattle.lexical_c.proofs.TextLengths.{text_of-le_need}
use Rattle.lexical_c.proofs.buffer_size.buffer_size.Goals as goal

pub returns-in-Some : goal.returns-in-Some
returns-in-Some g c =
    let accepted = c.in-Some.ensures.valid.0 refl in
    let valid = accepted.valid in
    let size = rw c.in-Some.ensures.format at c.buffer_size.ensures in
    record {
      accepts = (λ _. accepted, λ _. search rules);
      size = λ _. size;
      enough = λ _ x at_least at_most.
          let integer = g.met.T.LexicalInteger in
          let fits = text_of-le_need _ x (format_of c.args.format.now)
          valid integer.bit_width integer.decimal_width at_least at_most in
          let needs =
          need-le_size _ integer.bit_width g.met.T.FormattedSize.sizes x (format_of c.args.format.now)
          valid.mantissa at_least at_most in
          omega (arith, size, fits, needs);
      within = search rules;
    }

pub returns-in-None : goal.returns-in-None
returns-in-None g c = grind arith
