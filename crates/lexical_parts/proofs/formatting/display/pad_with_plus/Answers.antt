use Rattle.std.proofs.Common.{◌≡◌, ◌∙◌, ap, suc, false, true, sym, refl, [], drop, length, ◌<◌, ◌-◌, arith}
use Rattle.std.specs.Fmt.{formatter_spec, padded_integral}
use Rattle.std.specs.Option.{unwrap_or}
use Rattle.std.proofs.lemmas.Str.{IsCharBoundary-after_ascii}
use Rattle.std.proofs.Output.{has_written_styled_append, has_written_styled_of_eq}
use Rattle.lexical_parts.proofs.OfFormatting.ShownNumbers.{filled, width_of, zeros_after_plus}
use Rattle.lexical_parts.proofs.formatting.display.pad_with_plus.Goals as goal

pub range_from-digits-requires : goal.range_from-digits-requires
range_from-digits-requires g c = λ _.
    let some : 0 < length c.args.text.now = rw c.requires (omega arith) in
    IsCharBoundary-after_ascii c.args.text.now 0 c.utf8.text some (rw c.requires (omega arith))

pub returns-then-not-sign_aware_zero_pad : goal.returns-then-not-sign_aware_zero_pad
returns-then-not-sign_aware_zero_pad g c = λ p ok.
    let f = c.args.f.now in
    let no_plus : (formatter_spec f).plus ≡ false = sym c.sign_plus.ensures.value ∙ c.if-sign_plus.false in
    let no_zeros : (formatter_spec f).zero ≡ false = sym c.sign_aware_zero_pad.ensures
    ∙ c.if-not-sign_aware_zero_pad.true in
    let whole = ap (λ text. padded_integral (formatter_spec f) false [] text) c.requires in
    has_written_styled_of_eq _ _ _ _ _ (whole ∙ filled f (drop 1 c.args.text.now) no_plus no_zeros)
    (c.pad_integral-then-not-sign_aware_zero_pad.ensures.styled p ok)

pub returns : goal.returns
returns g c = λ p ok.
    let f = c.args.f.now in
    let text = c.args.text.now in
    let no_plus : (formatter_spec f).plus ≡ false = sym c.sign_plus.ensures.value ∙ c.if-sign_plus.false in
    let zeros : (formatter_spec f).zero ≡ true = sym c.sign_aware_zero_pad.ensures
    ∙ c.if-not-sign_aware_zero_pad.false in
    let same = (c.in_ok-write_str.ensures.styled p refl).spec in
    let width : c.unwrap_or.result ≡ f.spec.width =
    c.unwrap_or.ensures ∙ ap (λ w. unwrap_or w 0) c.width.ensures.value ∙ width_of c.write_str.new.self
    ∙ ap (λ s. s.width) same in
    let long : length text ≡ suc (length (drop 1 text)) = ap length c.requires in
    let count : c.saturating_sub-zeros.result ≡ f.spec.width - suc (length (drop 1 text)) =
    omega (arith, width, long, c.saturating_sub-zeros.ensures) in
    let plus = c.in_ok-write_str.ensures.styled p refl in
    let filled = c.in_ok-write_zeros.ensures plus.flush refl in
    has_written_styled_of_eq _ _ _ _ _ (rw (count, c.range_from-digits.ensures.value)
    (zeros_after_plus f (drop 1 text) no_plus zeros))
    (has_written_styled_append _ _ _ _ _ _ plus
    (has_written_styled_append _ _ _ _ _ _ filled (c.write_str-2.ensures.styled filled.flush ok)))
