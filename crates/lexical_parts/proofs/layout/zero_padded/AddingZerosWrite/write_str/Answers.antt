use Rattle.std.proofs.Common.{◌≡◌, ◌<◌, ◌-◌, ◌∙◌, ℕ, List, ap, arith, drop, length, refl, sym, take}
use Rattle.std.proofs.Output.{writes_in_calls_single}
use Rattle.std.proofs.lemmas.Bool.{eqb-false}
use Rattle.std.proofs.lemmas.Grind.{common_steps}
use Rattle.std.proofs.lemmas.List.{length-drop}
use Rattle.lexical_write_integer.specs.ZerosAfterSign.{sign_length}
use Rattle.lexical_parts.proofs.OfTexts.ZeroPaddings.{one_piece}
use Rattle.lexical_parts.proofs.layout.zero_padded.AddingZerosWrite.write_str.Goals as goal

the_rest : (text : List ℕ) (k : ℕ) → take (length text - k) (drop k text) ≡ drop k text
the_rest text k = grind (arith, common_steps, length-drop)

pub returns-in_ok-write_copies-in-Some-Some : goal.returns-in_ok-write_copies-in-Some-Some
returns-in_ok-write_copies-in-Some-Some g c =
    let text = c.args.text.now in
    let k = c.length_of_sign-sign.result in
    let is_k : k ≡ sign_length text = rw c.as_bytes.ensures.value at c.length_of_sign-sign.ensures.sign in
    let none : k - 0 ≡ k = omega arith in
    let sign : c.in-Some-Some.sign.now ≡ take (sign_length text) text =
    c.in-Some-Some.ensures.cases.0 ∙ ap (λ n. take n text) (none ∙ is_k) in
    let number : c.in-Some-Some.number.now ≡ drop (sign_length text) text =
    c.in-Some-Some.ensures'.cases.0 ∙ the_rest text k ∙ ap (λ n. drop n text) is_k in
    let other = eqb-false _ _ (sym c.if-is_empty.ensures) in
    let some : 0 < length text = omega (arith, other) in
    record {
      ok = λ ok.
          let both = one_piece _ _ text _ _ _ _ _ _ some sign number
          (writes_in_calls_single _ _ _ _ (c.in_ok-write_str-in-Some-Some.ensures.ok refl))
          (c.in_ok-write_copies-in-Some-Some.ensures refl)
          (writes_in_calls_single _ _ _ _ (c.write_str-in-Some-Some.ensures.ok ok)) in
          (refl, both.0, both.1);
    }
