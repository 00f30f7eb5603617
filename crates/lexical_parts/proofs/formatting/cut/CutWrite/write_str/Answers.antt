use Rattle.std.proofs.Common.{◌≡◌, ◌-◌, ◌∙◌, ap, refl, arith, take}
use Rattle.std.proofs.Output.{writes_in_calls_single}
use Rattle.std.specs.Fmt.{take_chars}
use Rattle.lexical_parts.proofs.OfTexts.CutTexts.{utf8_starts}
use Rattle.lexical_parts.proofs.formatting.cut.CutWrite.write_str.Goals as goal

pub returns-in-Some : goal.returns-in-Some
returns-in-Some g c =
    let cut = rw c.as_bytes.ensures.value at c.end_of_chars-end.ensures.end in
    let count : c.end_of_chars-end.result.0 - 0 ≡ c.end_of_chars-end.result.0 = omega arith in
    let first : c.in-Some.first.now ≡ take_chars c.args.self.now.left c.args.text.now =
    c.in-Some.ensures.cases.0 ∙ ap (λ n. take n c.args.text.now) count ∙ cut in
    record {
      ok = λ ok. (
        refl,
        utf8_starts c.args.text.now c.utf8.text,
        rw (← first) (writes_in_calls_single _ _ _ _ (c.write_str.ensures.ok ok)),
        rw c.as_bytes.ensures.value at c.end_of_chars-end.ensures.left,
      );
    }
