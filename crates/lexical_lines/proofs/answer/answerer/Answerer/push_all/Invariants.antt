use Rattle.std.proofs.Common.{◌≡◌, ℕ, List, ◌++◌, length}
use Rattle.lexical_lines.specs.Answerer.{HasAnswered}
use Rattle.lexical_lines.specs.RunOutcome.{added}
use Rattle.lexical_lines.proofs.answer.answerer.Answerer.push_all.Given as goal

abbrev pub invariant-loop-tail : goal.invariant-loop-tail
invariant-loop-tail g l =
    let sink = g.K.ByteSink in
    record {
      read : (front : List ℕ) × (l.bytes ≡ front ++ l.rest)
          × ((read written : List ℕ) → HasAnswered read written l.fn.self
          → HasAnswered (read ++ front) (written ++ added (sink.taken l.fn.sink) (sink.taken l.sink)) l.self);
      taken : sink.taken l.sink ≡ sink.taken l.fn.sink ++ added (sink.taken l.fn.sink) (sink.taken l.sink);
      failures : sink.failures l.sink ≡ sink.failures l.fn.sink;
      kept : sink.keeps l.fn.sink l.sink;
    }

abbrev pub decreases-loop-tail : goal.decreases-loop-tail
decreases-loop-tail g l = length l.rest
