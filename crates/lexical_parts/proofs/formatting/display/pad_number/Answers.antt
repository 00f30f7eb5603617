use Rattle.std.proofs.Common.{◌≡◌, ◌∙◌, ap, sym, false, not}
use Rattle.std.specs.Fmt.{formatter_spec}
use Rattle.std.specs.Option.{is_some}
use Rattle.std.proofs.Output.{has_written_styled_of_eq}
use Rattle.lexical_parts.proofs.OfFormatting.ShownNumbers.{no_width, unpadded}
use Rattle.lexical_parts.proofs.formatting.display.pad_number.Goals as goal

pub returns-then-not-alternate-clause-styled : goal.returns-then-not-alternate-clause-styled
returns-then-not-alternate-clause-styled g c = λ p ok.
    let f = c.args.f.now in
    let none : is_some c.width.result ≡ false = c.is_none.ensures ∙ ap not c.if-is_none.true in
    let width : (formatter_spec f).width ≡ 0 = no_width f (rw c.width.ensures.value at none) in
    let no_plus : (formatter_spec f).plus ≡ false = sym c.sign_plus.ensures.value ∙ c.if-not-sign_plus.true in
    has_written_styled_of_eq _ _ _ _ _ (c.requires
    ∙ sym (unpadded f c.args.has_plus c.args.is_negative _ width no_plus))
    (c.write_str.ensures.styled p ok)
