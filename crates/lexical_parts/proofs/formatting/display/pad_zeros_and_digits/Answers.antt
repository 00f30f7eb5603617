use Rattle.std.proofs.Common.{◌≡◌, ◌+◌, ◌-◌, ◌++◌, ◌∙◌, ℕ, false, arith, ap, length, length-append, refl, replicate}
use Rattle.std.proofs.Output.{has_written_styled_append, has_written_styled_of_eq}
use Rattle.std.proofs.lemmas.List.{length-replicate}
use Rattle.std.specs.Fmt.{fill_text, formatter_spec, sign_text_with}
use Rattle.lexical_parts.proofs.OfFormatting.ShownNumbers.{pieces_of_number, width_of}
use Rattle.lexical_parts.proofs.formatting.display.pad_zeros_and_digits.Goals as goal

pub returns-clause-styled : goal.returns-clause-styled
returns-clause-styled g c = λ flush ok.
    let f = c.args.f.now in
    let spec = formatter_spec f in
    let digits = replicate c.args.zeros 48 ++ c.args.digits.now in
    let wide : c.unwrap_or-width.result ≡ spec.width = rw c.width.ensures.value at c.unwrap_or-width.ensures
    ∙ width_of f in
    let long : length digits ≡ c.args.zeros + length c.args.digits.now =
    omega (
      arith,
      length-append (replicate c.args.zeros 48) c.args.digits.now,
      length-replicate {A = ℕ} c.args.zeros 48,
    ) in
    let plus : length c.plus_of-plus.result.now ≡ length (sign_text_with spec.plus false) =
    ap length c.plus_of-plus.ensures in
    let missing : c.saturating_sub-missing.result ≡ spec.width - length digits - length
    (sign_text_with spec.plus false) =
    omega (
      arith,
      wide,
      long,
      plus,
      c.saturating_sub.ensures,
      c.saturating_sub-2.ensures,
      c.saturating_sub-missing.ensures,
    ) in
    let filled = c.in_ok-format_fill.ensures flush refl in
    let sign = rw c.plus_of-plus.ensures at (c.in_ok-write_str.ensures.styled filled.flush refl) in
    let zeros = c.in_ok-write_zeros.ensures sign.flush refl in
    let more = c.in_ok-write_zeros-2.ensures zeros.flush refl in
    let last = c.in_ok-write_str-2.ensures.styled more.flush refl in
    let after = c.format_fill-2.ensures last.flush ok in
    let same = last.spec ∙ more.spec ∙ zeros.spec ∙ sign.spec ∙ filled.spec in
    let rest = has_written_styled_of_eq _ _ _ _ _
    (ap (λ s. fill_text s (c.fill_of_number-fill.result - c.fill_before_number-before.result)) same) after in
    let whole = pieces_of_number f digits _ _ _ missing c.fill_of_number-fill.ensures.value
    c.fill_before_number-before.ensures.side in
    has_written_styled_of_eq _ _ _ _ _ whole
    (has_written_styled_append _ _ _ _ _ _ filled
    (has_written_styled_append _ _ _ _ _ _ sign
    (has_written_styled_append _ _ _ _ _ _ zeros
    (has_written_styled_append _ _ _ _ _ _ (has_written_styled_append _ _ _ _ _ _ more last) rest))))
