use Rattle.std.proofs.Common.{◌∙◌, ◌∷◌, ◌++◌, [], refl}
use Rattle.std.proofs.lemmas.List.{append_cancel_right}
use Rattle.lexical_write_integer.specs.Text.{IsText}
use Rattle.lexical_write_integer.proofs.OfTexts.ReadTexts.{are_read, bare, digits_read}
use Rattle.lexical_lines.specs.Answer.{WithNewline, IsAnsweredBy}
use Rattle.lexical_lines.specs.Request.{requested_format, IsRequestFor}
use Rattle.lexical_lines.proofs.UniqueAnswers.{IsRequest-unique}
use Rattle.lexical_lines.proofs.laws.answer_read_back.Goals as goal

pub returns : goal.returns
unfolding IsRequestFor IsAnsweredBy
returns c = λ radix number (kind, plus, request).
    let few = request.radix_valid.at_most_36 in
    are_read _ _ plus few _ (λ text is.
    let same = IsRequest-unique request is.request in
    let written : WithNewline (IsText number (requested_format radix plus)) (text ++ 10 ∷ []) =
    rw (same.0, same.1, same.2) is.text in
    record {
      digits = written.1.digits;
      whole = append_cancel_right text written.0 (10 ∷ []) written.2 ∙ bare _ _ _ refl written.1;
      read = digits_read _ _ written.1.digits few written.1.magnitude;
    })
