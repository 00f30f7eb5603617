use Rattle.std.proofs.lemmas.Grind.{common_steps}
use Rattle.std.proofs.Common.{◌∙◌, ap, false, [], drop, length, arith}
use Rattle.std.specs.Fmt.{formatter_spec, padded_integral, sign_text_with}
use Rattle.std.proofs.lemmas.Str.{IsCharBoundary-after_ascii}
use Rattle.std.proofs.Output.{has_written_styled_of_eq}
use Rattle.lexical_parts.proofs.OfFormatting.ShownNumbers.{negative_sign, sign_as_digit}
use Rattle.lexical_parts.proofs.formatting.display.pad_with_options.Goals as goal

pub range_from-requires : goal.range_from-requires
range_from-requires g c = grind (arith, common_steps, IsCharBoundary-after_ascii)

pub returns-then-is_negative : goal.returns-then-is_negative
returns-then-is_negative g c = λ p ok.
    rw c.if-is_negative.true
    (has_written_styled_of_eq _ _ _ _ _ (negative_sign c.args.f.now c.args.has_plus (drop 1 c.args.text.now))
    (rw c.range_from.ensures.value at c.pad_integral.ensures.styled p ok))

pub returns-then-is_short_cell : goal.returns-then-is_short_cell
returns-then-is_short_cell g c = λ p ok.
    let f = c.args.f.now in
    let short = c.is_short_cell.ensures c.if-is_short_cell.true in
    let digits = drop (length (sign_text_with c.args.has_plus c.args.is_negative)) c.args.text.now in
    let whole = ap (λ text. padded_integral (formatter_spec f) false [] text) c.requires in
    has_written_styled_of_eq _ _ _ _ _ (whole
    ∙ sign_as_digit f c.args.has_plus c.args.is_negative digits short.no_plus short.no_zeros)
    (c.write_cell.ensures p ok)
