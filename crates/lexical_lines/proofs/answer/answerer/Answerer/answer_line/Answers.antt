use Rattle.std.proofs.Common.{[], ◌∷◌, ◌++◌, false, refl, sym, subst, append_assoc}
use Rattle.lexical_write_integer.proofs.Buffers.Prefixes.{take-Writes}
use Rattle.lexical_lines.specs.Answerer.{HasAnswered}
use Rattle.lexical_lines.specs.Line.{short_line}
use Rattle.lexical_lines.specs.RunOutcome.{BreaksOff}
use Rattle.lexical_lines.proofs.Runs.{AnswererState-more, AnswererState-line, BreaksOff-line}
use Rattle.lexical_lines.proofs.answer.answerer.Answerer.answer_line.Goals as goal

pub returns-clause-whole : goal.returns-clause-whole
unfolding HasAnswered
returns-clause-whole c = λ read old h.
    let tail = c.args.tail.now in
    let whole = AnswererState-more h tail (record c.args.self.now { line = short_line (h.rest ++ tail) })
    c.requires refl refl refl in
    let line = c.ended_with-line.ensures.value h.rest h.last in
    let written = c.write_answer-count.ensures.answer (h.rest ++ tail) line in
    rw (sym (append_assoc read tail (10 ∷ [])), take-Writes _ _ _ written)
    (AnswererState-line whole written.text _ _ written.is
    (c.write_answer-count.ensures.valid (h.rest ++ tail) line) c.clear.ensures c.saturating_add-self.ensures refl)

pub returns-clause-part : goal.returns-clause-part
unfolding HasAnswered
returns-clause-part c = λ read old part h begins.
    let tail = c.args.tail.now in
    let whole = AnswererState-more h tail (record c.args.self.now { line = short_line (h.rest ++ tail) })
    c.requires refl refl refl in
    let written = c.write_answer-count.ensures.answer (h.rest ++ tail)
    (c.ended_with-line.ensures.value h.rest h.last) in
    subst (λ bytes. BreaksOff false bytes (old ++ part)) (append_assoc read tail (10 ∷ []))
    (BreaksOff-line whole written.text part written.is (rw (take-Writes _ _ _ written) at begins))
