use Rattle.std.proofs.lemmas.Grind.{common_steps}
use Rattle.std.proofs.Common.{ℕ, List, None, arith}
use Rattle.lexical_parts.proofs.OfTexts.Conversions.{IsDigits-as_text, then_as}
use Rattle.lexical_parts.proofs.OfTexts.Lengths.{length_of_kind}
use Rattle.lexical_parts.specs.Fixed.{IsFixed, IsGroupedFixed}
use Rattle.lexical_parts.proofs.numbers.fixed.FixedPart.text_len.Goals as goal

pub returns-clause-length : goal.returns-clause-length
returns-clause-length g c =
    let number = g.T.LexicalInteger.number c.args.self.0 in
    let change : (text : List ℕ) → IsFixed c.args.self.1 number text → IsGroupedFixed None c.args.self.1 number text =
    then_as (λ _ sign. sign) (then_as IsDigits-as_text (λ _ fraction. fraction)) in
    let same = λ (count : ℕ). length_of_kind count change in
    grind (arith, common_steps, same)
