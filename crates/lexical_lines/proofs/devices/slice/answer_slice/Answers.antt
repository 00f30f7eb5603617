use Rattle.std.proofs.Common.{arith, rules, inl, inr}
use Rattle.lexical_lines.proofs.UniqueAnswers.{BreaksOff-begins}
use Rattle.lexical_lines.proofs.Slices.{yielded-ended, yielded-part, Writes-sink, BreaksOff-full}
use Rattle.lexical_lines.proofs.devices.slice.answer_slice.Goals as goal

pub returns-in-Ok-clause-answered : goal.returns-in-Ok-clause-answered
returns-in-Ok-clause-answered c =
    let source = c.new-source.ensures in
    let sink = c.new-sink.ensures in
    let ran = c.run.ensures in
    let whole = c.in-Ok.ensures.ok in
    let yielded = yielded-ended c.args.input.now source.yielded source.left source.ended ran.kept_source whole.ended in
    let answers = rw (source.yielded, yielded, sink.taken) at whole.answers in
    Writes-sink sink.taken sink.rest ran.kept_sink answers c.len.ensures (search rules)

pub returns-in-Err-clause-full : goal.returns-in-Err-clause-full
returns-in-Err-clause-full c =
    let source = c.new-source.ensures in
    let sink = c.new-sink.ensures in
    let ran = c.in-Err.ensures in
    elim ran.err [
      | inl failed ↦ absurd (omega (arith, failed.source))
      | inr failed ↦ elim ran.kept_sink.full [
        | inl none ↦ absurd (omega (arith, failed.sink, none))
        | inr full ↦
            let put = rw (source.yielded, sink.taken) at failed.answers in
            λ text answered.
            BreaksOff-begins c.run.new.source.is_ended c.run.new.source.yielded c.run.new.source.left _ text
            (λ ended. ran.kept_source.at_end (λ e. cc (e, source.ended)) ended)
            (BreaksOff-full c.run.new.sink full put (search rules))
            (rw (yielded-part c.args.input.now source.yielded source.left ran.kept_source) at answered)
      ]
    ]
