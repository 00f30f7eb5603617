use Rattle.std.proofs.Common.{◌^◌, ◌-◌, true, false, arith}
use Rattle.lexical_lines.proofs.Known.{answers-known, reports-known, begins-known}
use Rattle.lexical_lines.proofs.stream_answers.answer_reader.Goals as goal

pub returns-clause-answered : goal.returns-clause-answered
returns-clause-answered g c = λ low.
    answers-known (g.R.Read.remaining c.args.reader) c.args.writer.now c.answer_stream.new.writer
    (rw c.whole.ensures at (c.answer_stream.ensures.answered low))

pub returns-clause-valid : goal.returns-clause-valid
returns-clause-valid g c = λ zero.
    reports-known (2 ^ 63 - 1) (g.R.Read.remaining c.args.reader) _ true
    (rw c.whole.ensures at (c.answer_stream.ensures.answered (omega (arith, zero))).all)
    (c.answer_stream.ensures.valid zero)

pub returns-clause-bad : goal.returns-clause-bad
returns-clause-bad g c = λ one.
    reports-known (2 ^ 63 - 1) (g.R.Read.remaining c.args.reader) _ false
    (rw c.whole.ensures at (c.answer_stream.ensures.answered (omega (arith, one))).all)
    (c.answer_stream.ensures.bad one)

pub returns-clause-failed : goal.returns-clause-failed
returns-clause-failed g c = λ two. record {
  read = _;
  first = begins-known (2 ^ 63 - 1) (g.R.Read.remaining c.args.reader) _ _
      (rw c.whole.ensures at c.answer_stream.ensures.read.known);
  failures = _;
  is_ended = _;
  failed = c.answer_stream.ensures.failed two;
}
