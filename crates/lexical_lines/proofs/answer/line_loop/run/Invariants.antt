use Rattle.std.proofs.Common.{◌≡◌, ◌++◌}
use Rattle.lexical_lines.specs.Answerer.{HasAnswered}
use Rattle.lexical_lines.specs.RunOutcome.{added}
use Rattle.lexical_lines.proofs.answer.line_loop.run.Given as goal

abbrev pub invariant-loop-byte : goal.invariant-loop-byte
invariant-loop-byte g l =
    let source = g.S.ByteSource in
    let sink = g.K.ByteSink in
    record {
      yielded : source.yielded l.source ≡ source.yielded l.fn.source
          ++ added (source.yielded l.fn.source) (source.yielded l.source);
      read : HasAnswered (added (source.yielded l.fn.source) (source.yielded l.source))
          (added (sink.taken l.fn.sink) (sink.taken l.sink)) l.answerer;
      taken : sink.taken l.sink ≡ sink.taken l.fn.sink ++ added (sink.taken l.fn.sink) (sink.taken l.sink);
      source_failures : source.failures l.source ≡ source.failures l.fn.source;
      sink_failures : sink.failures l.sink ≡ sink.failures l.fn.sink;
      source_kept : source.keeps l.fn.source l.source;
      sink_kept : sink.keeps l.fn.sink l.sink;
    }

abbrev pub decreases-loop-byte : goal.decreases-loop-byte
decreases-loop-byte g l = g.S.ByteSource.remaining l.source
