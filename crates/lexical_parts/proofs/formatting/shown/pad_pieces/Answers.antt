use Rattle.std.proofs.Common.{◌≡◌, ◌-◌, ◌∙◌, refl, sym, ap, inl, inr, arith}
use Rattle.std.proofs.Output.{has_written_styled_append, has_written_styled_of_eq}
use Rattle.std.proofs.Padding.{padded_is, padding_before_none}
use Rattle.std.proofs.lemmas.Bool.{cases_lt}
use Rattle.std.specs.Fmt.{char_count, fill_text, formatter_spec, padding_before, take_chars}
use Rattle.lexical_parts.proofs.OfTexts.CutTexts.{char_count-take_chars}
use Rattle.lexical_parts.proofs.OfFormatting.ShownNumbers.{precision_of, width_of}
use Rattle.lexical_parts.proofs.formatting.shown.pad_pieces.Goals as goal

pub returns : goal.returns
returns g c = λ flush aligned ok.
    let f = c.args.f.now in
    let spec = formatter_spec f in
    let most : c.unwrap_or-most.result ≡ spec.precision =
    rw c.precision.ensures.value at c.unwrap_or-most.ensures ∙ precision_of f in
    let wide : c.unwrap_or.result ≡ spec.width = rw c.width.ensures.value at c.unwrap_or.ensures ∙ width_of f in
    let padding = c.saturating_sub-padding.result in
    let before : c.padding_before-before.result ≡ padding_before spec padding 1 =
    elim (cases_lt 0 spec.width) [
      | inl some ↦ c.padding_before-before.ensures.side (aligned some)
      | inr none ↦
          let zero_padding : padding ≡ 0 = omega (arith, wide, none, c.saturating_sub-padding.ensures) in
          let zero_before : c.padding_before-before.result ≡ 0 =
          omega (arith, zero_padding, c.padding_before-before.ensures.within) in
          zero_before ∙ sym (padding_before_none spec 1) ∙ ap (λ n. padding_before spec n 1) (sym zero_padding)
    ] in
    let filled = c.in_ok-format_fill.ensures flush refl in
    let cell = c.in_ok-left.ensures filled.flush in
    let shown = take_chars spec.precision cell.0 in
    let counted = char_count-take_chars spec.precision cell.0 in
    let left : padding ≡ spec.width - char_count shown = omega (arith, wide, most, counted, cell.3) in
    let wrote = rw most at cell.2 in
    let after = c.format_fill-2.ensures wrote.flush ok in
    let same = wrote.spec ∙ filled.spec in
    let rest = has_written_styled_of_eq _ _ _ _ _
    (ap (λ s. fill_text s (padding - c.padding_before-before.result)) same) after in
    let whole = padded_is spec cell.0 shown padding c.padding_before-before.result refl left before in (
      cell.0,
      cell.1,
      has_written_styled_of_eq _ _ _ _ _ whole
          (has_written_styled_append _ _ _ _ _ _ filled (has_written_styled_append _ _ _ _ _ _ wrote rest)),
    )
