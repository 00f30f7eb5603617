use Rattle.std.proofs.Common.{append-nil, arith}
use Rattle.std.proofs.lemmas.Result.{err_from_is_err_and}
use Rattle.std.proofs.lemmas.Grind.{common_steps}
use Rattle.lexical_lines.specs.Answerer.{HasAnswered}
use Rattle.lexical_lines.proofs.Added.{added-none}
use Rattle.lexical_lines.proofs.Lines.{AreLines-newline}
use Rattle.lexical_lines.proofs.Runs.{answers_at_newline, answers_at_rest, lines_at_rest, BreaksOff-rest}
use Rattle.lexical_lines.proofs.answer.answerer.Answerer.finish.Goals as goal

pub returns-in_err-push-clause-err : goal.returns-in_err-push-clause-err
unfolding HasAnswered
returns-in_err-push-clause-err g c = rw (err_from_is_err_and c.from_residual.result c.from_residual.ensures.1).1
    (λ read written h.
    BreaksOff-rest h (λ e. let wrong = c.if-is_empty.ensures.1 e in cc) (c.in_err-push.ensures.err read written h))

pub returns-clause-ok : goal.returns-clause-ok
unfolding HasAnswered
returns-clause-ok g c = λ read written h.
    answers_at_rest h (λ e. let wrong = c.if-is_empty.ensures.1 e in cc) (c.in_ok-push.ensures.ok read written h)

pub returns-clause-valid : goal.returns-clause-valid
unfolding HasAnswered
returns-clause-valid g c = λ read written h.
    let whole = c.in_ok-push.ensures.ok read written h in
    let cut = lines_at_rest h (λ e. let wrong = c.if-is_empty.ensures.1 e in cc) (AreLines-newline read whole.cut) in
    record { lines = whole.ended; cut = cut; valid = whole.valid }

-- the check finds this proof by itself, but with an answer the refusal of a mistake says what is wrong
pub returns-then-is_empty-clause-ok : goal.returns-then-is_empty-clause-ok
unfolding HasAnswered
returns-then-is_empty-clause-ok g c = λ read written h.
    rw (added-none (g.K.ByteSink.taken c.args.sink.now), append-nil written)
    (answers_at_newline h (c.is_empty.ensures.0 c.if-is_empty.true))

-- the check finds this proof by itself, but close to its limits
pub returns-then-is_empty-clause-valid : goal.returns-then-is_empty-clause-valid
unfolding HasAnswered
returns-then-is_empty-clause-valid g c = grind (arith, common_steps)
