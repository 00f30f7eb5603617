use Rattle.lexical_lines.specs.StreamAnswers.{Yields, IsUnderWay}
use Rattle.lexical_lines.proofs.stream_answers.answer_blocks.Given as goal

abbrev pub invariant-loop-source : goal.invariant-loop-source
invariant-loop-source g l =
    let s = g.S.ByteSource in
    record {
      read : Yields s.yielded s.remaining g.S.BlockSource.unread s.is_ended l.fn.source l.source (s.yielded l.source);
      under_way : IsUnderWay (s.failures l.source) (s.yielded l.source) l.fn.writer l.writer l.answerer;
    }

abbrev pub decreases-loop-source : goal.decreases-loop-source
decreases-loop-source g l = g.S.ByteSource.remaining l.source
