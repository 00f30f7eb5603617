use Rattle.std.proofs.Common.{◌≡◌, ◌∙◌, ap, sym, false, []}
use Rattle.std.proofs.Output.{has_written_styled_of_eq}
use Rattle.std.proofs.Padding.{padded_integral_right}
use Rattle.std.specs.Fmt.{formatter_spec, padded_integral}
use Rattle.std.specs.Option.{unwrap_or}
use Rattle.lexical_parts.proofs.OfFormatting.ShownNumbers.{width_of}
use Rattle.lexical_parts.proofs.formatting.cell.write_cell.Goals as goal

pub returns : goal.returns
returns g c = λ p ok.
    let f = c.args.f.now in
    let text = c.args.text.now in
    let short = c.requires in
    let width : c.unwrap_or-width.result ≡ (formatter_spec f).width =
    c.unwrap_or-width.ensures ∙ ap (λ w. unwrap_or w 0) c.width.ensures.value ∙ width_of f in
    let cell = c.to_str.ensures.text in
    let is = sym (padded_integral_right (formatter_spec f)
    text short.no_plus short.no_zeros short.not_left short.not_center short.ascii) in
    let written : c.to_str.result.now ≡ padded_integral (formatter_spec f) false [] text =
    cell.whole ∙ rw (cell.is, width, c.fill-fill.ensures) is in
    has_written_styled_of_eq _ _ _ _ _ written (c.write_str.ensures.styled p ok)
