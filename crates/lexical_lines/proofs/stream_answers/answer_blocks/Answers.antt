use Rattle.std.proofs.Common.{[], inl, inr, refl, sym, arith, rules, ◌∙◌, append-nil}
use Rattle.std.proofs.Math.Bool.{or-true}
use Rattle.std.proofs.KnownBytes.{Consumes-all, Consumes-trans}
use Rattle.std.proofs.lemmas.Result.{err_from_is_err_and}
use Rattle.std.specs.contracts.io.Error.{the_row}
use Rattle.lexical_lines.specs.Answerer.{HasAnswered}
use Rattle.lexical_lines.specs.BlockWriter.{taken, TakesMore-reflexive, TakesMore-transitive}
use Rattle.lexical_lines.proofs.Added.{added-none}
use Rattle.lexical_lines.proofs.Runs.{answers_ended}
use Rattle.lexical_lines.proofs.Begun.{begins-ended, begins-broken, begins-last, begins-all}
use Rattle.lexical_lines.proofs.Steps.{IsUnderWay-flushed, Yields-more, handed-all, not_ended, put-more}
use Rattle.lexical_lines.proofs.stream_answers.answer_blocks.Goals as goal

pub loop-source-init : goal.loop-source-init
loop-source-init g c = record {
  read = search rules;
  under_way = record {
    no_failure = c.requires.no_failure;
    written = TakesMore-reflexive _;
    answered = rw (c.requires.fresh, added-none (taken c.args.writer.now)) c.new-answerer.ensures;
  };
}

pub returns-in_err-flush-clause-err : goal.returns-in_err-flush-clause-err
unfolding HasAnswered
returns-in_err-flush-clause-err g c =
    let h = c.loop-source.invariant.under_way in
    let flush = c.in_err-flush.ensures in
    rw (err_from_is_err_and c.from_residual.result c.from_residual.ensures.1).1 (inr (record {
      failure = (h.no_failure.0, omega (arith, flush.failures, h.no_failure.1));
      begins = begins-ended _ _ _ (rw flush.taken (answers_ended h.answered));
    }))

pub returns-in_err-flush-clause-written : goal.returns-in_err-flush-clause-written
returns-in_err-flush-clause-written g c =
    TakesMore-transitive _ _ _ c.loop-source.invariant.under_way.written c.flush.ensures.kept

pub returns-in_err-count-clause-err : goal.returns-in_err-count-clause-err
unfolding HasAnswered
returns-in_err-count-clause-err g c =
    let flush = c.in_ok-flush.ensures in
    let read = c.in_err-count.ensures in
    let h = IsUnderWay-flushed c.loop-source.invariant.under_way c.flush.new.self flush.taken flush.kept
    (omega (arith, flush.failures)) in
    rw (err_from_is_err_and c.from_residual-in_err-count.result c.from_residual-in_err-count.ensures.1).1 (inl (record {
      failure = (omega (arith, read.failures, h.no_failure.0), h.no_failure.1);
      answers = rw (read.yielded ∙ append-nil _) (answers_ended h.answered);
      handed = handed-all _ _ h.written flush.ok;
    }))

pub returns-in_err-count-clause-written : goal.returns-in_err-count-clause-written
returns-in_err-count-clause-written g c =
    TakesMore-transitive _ _ _ c.loop-source.invariant.under_way.written c.flush.ensures.kept

pub returns-in_err-push_all-clause-err : goal.returns-in_err-push_all-clause-err
returns-in_err-push_all-clause-err g c =
    let flush = c.in_ok-flush.ensures in
    let read = c.in_ok-count.ensures in
    let push = c.in_err-push_all.ensures in
    let h = IsUnderWay-flushed c.loop-source.invariant.under_way c.flush.new.self flush.taken flush.kept
    (omega (arith, flush.failures)) in
    let (front, some, starts, broke) = push.err _ _ h.answered in
    rw (err_from_is_err_and c.from_residual-in_err-push_all.result c.from_residual-in_err-push_all.ensures.1).1
    (inr (record {
      failure = (omega (arith, read.failures, h.no_failure.0), omega (arith, push.puts.failures, h.no_failure.1));
      begins = rw (read.yielded, put-more h.written c.push_all.ensures.puts.kept)
          (begins-broken _ _ _ front _ starts broke);
    }))

pub returns-in_err-push_all-clause-read : goal.returns-in_err-push_all-clause-read
returns-in_err-push_all-clause-read g c =
    let read = c.in_ok-count.ensures in
    Yields-more _ _ _ _ _ _ _ _ _ c.requires.fresh c.loop-source.invariant.read read.within read.yielded read.remaining
    (read.ended ∙ not_ended the_row.Denot _ c.in_ok-count.count c.if-count-eq0.false) read.bytes.0

pub returns-in_err-push_all-clause-written : goal.returns-in_err-push_all-clause-written
returns-in_err-push_all-clause-written g c = TakesMore-transitive _ _ _ c.loop-source.invariant.under_way.written
    (TakesMore-transitive _ _ _ c.flush.ensures.kept c.push_all.ensures.puts.kept)

pub loop-source-preserved : goal.loop-source-preserved
loop-source-preserved g c =
    let flush = c.in_ok-flush.ensures in
    let read = c.in_ok-count.ensures in
    let push = c.in_ok-push_all.ensures in
    let h = IsUnderWay-flushed c.loop-source.invariant.under_way c.flush.new.self flush.taken flush.kept
    (omega (arith, flush.failures)) in
    record {
      read = Yields-more _ _ _ _ _ _ _ _ _ c.requires.fresh c.loop-source.invariant.read read.within read.yielded
          read.remaining
          (read.ended ∙ not_ended the_row.Denot _ c.in_ok-count.count c.if-count-eq0.false) read.bytes.0;
      under_way = record {
        no_failure = (omega (arith, read.failures, h.no_failure.0), omega (arith, push.puts.failures, h.no_failure.1));
        written = TakesMore-transitive _ _ _ h.written push.puts.kept;
        answered = rw (read.yielded, put-more h.written push.puts.kept) (push.ok _ _ h.answered);
      };
    }

-- ---- the end of the input

pub returns-in_err-all_valid-clause-err : goal.returns-in_err-all_valid-clause-err
returns-in_err-all_valid-clause-err g c =
    let flush = c.in_ok-flush.ensures in
    let read = c.in_ok-count.ensures in
    let finish = c.in_err-all_valid.ensures in
    let h = IsUnderWay-flushed c.loop-source.invariant.under_way c.flush.new.self flush.taken flush.kept
    (omega (arith, flush.failures)) in
    let ended = (rw c.if-count-eq0.true at read.ended) ∙ or-true _ in
    rw (err_from_is_err_and c.from_residual-in_err-all_valid.result c.from_residual-in_err-all_valid.ensures.1).1
    (inr (record {
      failure = (omega (arith, read.failures, h.no_failure.0), omega (arith, finish.puts.failures, h.no_failure.1));
      begins = rw (
        (rw c.if-count-eq0.true at read.yielded) ∙ append-nil _,
        put-more h.written c.finish.ensures.puts.kept,
      )
          (begins-last _ _ _ ended (finish.err _ _ h.answered));
    }))

pub returns-in_err-all_valid-clause-written : goal.returns-in_err-all_valid-clause-written
returns-in_err-all_valid-clause-written g c = TakesMore-transitive _ _ _ c.loop-source.invariant.under_way.written
    (TakesMore-transitive _ _ _ c.flush.ensures.kept c.finish.ensures.puts.kept)

pub returns-in_err-flush-2-clause-err : goal.returns-in_err-flush-2-clause-err
returns-in_err-flush-2-clause-err g c =
    let flush = c.in_ok-flush.ensures in
    let read = c.in_ok-count.ensures in
    let finish = c.in_ok-all_valid.ensures in
    let last = c.in_err-flush-2.ensures in
    let h = IsUnderWay-flushed c.loop-source.invariant.under_way c.flush.new.self flush.taken flush.kept
    (omega (arith, flush.failures)) in
    let ended = (rw c.if-count-eq0.true at read.ended) ∙ or-true _ in
    rw (err_from_is_err_and c.from_residual-in_err-flush-2.result c.from_residual-in_err-flush-2.ensures.1).1
    (inr (record {
      failure = (
        omega (arith, read.failures, h.no_failure.0),
        omega (arith, last.failures, finish.puts.failures, h.no_failure.1),
      );
      begins = rw (
        (rw c.if-count-eq0.true at read.yielded) ∙ append-nil _,
        last.taken,
        put-more h.written finish.puts.kept,
      )
          (begins-all _ _ _ ended (finish.ok _ _ h.answered));
    }))

pub returns-in_err-flush-2-clause-written : goal.returns-in_err-flush-2-clause-written
returns-in_err-flush-2-clause-written g c = TakesMore-transitive _ _ _ c.loop-source.invariant.under_way.written
    (TakesMore-transitive _ _ _ c.flush.ensures.kept
    (TakesMore-transitive _ _ _ c.finish.ensures.puts.kept c.flush-2.ensures.kept))

pub returns-clause-ok : goal.returns-clause-ok
returns-clause-ok g c =
    let loop = c.loop-source.invariant in
    let flush = c.in_ok-flush.ensures in
    let read = c.in_ok-count.ensures in
    let finish = c.in_ok-all_valid.ensures in
    let last = c.in_ok-flush-2.ensures in
    let h = IsUnderWay-flushed loop.under_way c.flush.new.self flush.taken flush.kept (omega (arith, flush.failures)) in
    let known = Consumes-trans _ _ _ _ _ loop.read.known read.bytes.0 in
    record {
      no_failure = (
        omega (arith, read.failures, h.no_failure.0),
        omega (arith, last.failures, finish.puts.failures, h.no_failure.1),
      );
      ended = (rw c.if-count-eq0.true at read.ended) ∙ or-true _;
      all = Consumes-all _ _ _ [] _ (rw read.yielded known) (read.bytes.1 c.if-count-eq0.true (search rules)) refl;
      answers = rw (
        (rw c.if-count-eq0.true at read.yielded) ∙ append-nil _,
        last.taken,
        put-more h.written finish.puts.kept,
      )
          (finish.ok _ _ h.answered);
      handed = handed-all _ _ (TakesMore-transitive _ _ _ h.written
          (TakesMore-transitive _ _ _ finish.puts.kept last.kept)) last.ok;
    }

pub returns-clause-valid : goal.returns-clause-valid
returns-clause-valid g c =
    let answered = rw (sym c.in_ok-flush.ensures.taken) at c.loop-source.invariant.under_way.answered in
    rw ((rw c.if-count-eq0.true at c.in_ok-count.ensures.yielded) ∙ append-nil _)
    (c.in_ok-all_valid.ensures.valid _ _ answered)

pub returns-clause-written : goal.returns-clause-written
returns-clause-written g c = TakesMore-transitive _ _ _ c.loop-source.invariant.under_way.written
    (TakesMore-transitive _ _ _ c.flush.ensures.kept
    (TakesMore-transitive _ _ _ c.finish.ensures.puts.kept c.flush-2.ensures.kept))
