use Rattle.std.proofs.Common.{◌∙◌, inl, inr, true, ◌≡◌, ◌+◌, ℕ, Result, OnOk, OnErr, IfOk, arith}
use Rattle.std.proofs.Math.Bool.{or-true}
use Rattle.std.proofs.lemmas.List.{append-nil}
use Rattle.std.proofs.lemmas.Result.{err_from_is_err_and}
use Rattle.lexical_lines.proofs.Added.{added-more, grown}
use Rattle.lexical_lines.specs.Answerer.{HasAnswered}
use Rattle.lexical_lines.specs.Source.{failures_of}
use Rattle.lexical_lines.proofs.Runs.{BreaksOff-open, answers_ended}
use Rattle.lexical_lines.proofs.answer.line_loop.run.Goals as goal

-- a call that succeeded had no failure
IfOk-no_failure : {A E P : Type 0} {Q R : A → Type 0} (before after : ℕ) (result : Result A E)
    → after ≡ before + failures_of result
    → OnOk result P → IfOk result Q → ((a : A) → after ≡ before → P → Q a → R a) → IfOk result R
IfOk-no_failure before after result failures p q then = grind arith

-- a call that failed had one failure
OnErr-one_failure : {A E P Q : Type 0} (before after : ℕ) (result : Result A E) → after ≡ before + failures_of result
    → (after ≡ before + 1 → P → Q) → OnErr result P → OnErr result Q
OnErr-one_failure before after result failures then p = grind arith

pub loop-byte-preserved : goal.loop-byte-preserved
loop-byte-preserved g c =
    let loop = c.loop-byte.invariant in
    let next = c.in_ok-byte.ensures in
    let more = rw c.in-Some.is at next.yielded in
    record {
      yielded = grown _ _ _ _ _ loop.yielded next.yielded;
      read = rw (added-more _ _ _ _ loop.yielded more, added-more _ _ _ _ loop.taken c.in_ok-push.ensures.puts.longer)
          (c.in_ok-push.ensures.ok _ _ loop.read);
      taken = grown _ _ _ _ _ loop.taken c.in_ok-push.ensures.puts.longer;
      source_failures = omega (arith, next.failures, loop.source_failures);
      sink_failures = omega (arith, c.in_ok-push.ensures.puts.failures, loop.sink_failures);
      source_kept = g.met.S.ByteSource.keeps_transitive _ _ _ loop.source_kept next.kept;
      sink_kept = g.met.K.ByteSink.keeps_transitive _ _ _ loop.sink_kept c.push.ensures.puts.kept;
    }

pub returns-in_err-push-clause-err : goal.returns-in_err-push-clause-err
returns-in_err-push-clause-err g c =
    let loop = c.loop-byte.invariant in
    let next = c.in_ok-byte.ensures in
    let more = rw c.in-Some.is at next.yielded in
    let broke = c.in_err-push.ensures.err _ _ loop.read in
    rw (err_from_is_err_and c.from_residual-in_err-push.result c.from_residual-in_err-push.ensures.1).1 (inr (record {
      source = omega (arith, next.failures, loop.source_failures);
      sink = omega (arith, c.in_err-push.ensures.puts.failures, loop.sink_failures);
      answers = rw (added-more _ _ _ _ loop.yielded more, added-more _ _ _ _ loop.taken c.push.ensures.puts.longer)
          (BreaksOff-open (g.S.ByteSource.is_ended c.next.new.self) broke);
    }))

pub returns-clause-err : goal.returns-clause-err
returns-clause-err g c =
    let loop = c.loop-byte.invariant in
    let next = c.in_ok-byte.ensures in
    let same = added-more _ _ _ _ loop.yielded (rw c.in_default.is at next.yielded) ∙ append-nil _ in
    let ended : g.S.ByteSource.is_ended c.next.new.self ≡ true = (rw c.in_default.is at next.ended) ∙ or-true _ in
    rw (same, ended, added-more _ _ _ _ loop.taken c.finish.ensures.puts.longer)
    (OnErr-one_failure _ _ c.finish.result c.finish.ensures.puts.failures
    (λ failed broke. inr (grind (arith, next.failures, loop.source_failures, loop.sink_failures, broke _ _ loop.read)))
    c.finish.ensures.err)

pub returns-clause-ok : goal.returns-clause-ok
returns-clause-ok g c =
    let loop = c.loop-byte.invariant in
    let next = c.in_ok-byte.ensures in
    let finish = c.finish.ensures in
    let same = added-more _ _ _ _ loop.yielded (rw c.in_default.is at next.yielded) ∙ append-nil _ in
    let ended : g.S.ByteSource.is_ended c.next.new.self ≡ true = (rw c.in_default.is at next.ended) ∙ or-true _ in
    rw (same, added-more _ _ _ _ loop.taken finish.puts.longer)
    (IfOk-no_failure _ _ c.finish.result finish.puts.failures finish.ok finish.valid
    (λ all_valid sink answers told. grind (
      arith,
      next.failures,
      loop.source_failures,
      loop.sink_failures,
      answers _ _ loop.read,
      told _ _ loop.read,
    )))

pub returns-in_err-byte-clause-err : goal.returns-in_err-byte-clause-err
unfolding HasAnswered
returns-in_err-byte-clause-err g c =
    let loop = c.loop-byte.invariant in
    let next = c.in_err-byte.ensures in
    rw (err_from_is_err_and c.from_residual.result c.from_residual.ensures.1).1 (inl (record {
      source = omega (arith, next.failures, loop.source_failures);
      sink = loop.sink_failures;
      answers = rw (added-more _ _ _ _ loop.yielded next.yielded ∙ append-nil _) (answers_ended loop.read);
    }))

pub returns-clause-kept_source : goal.returns-clause-kept_source
returns-clause-kept_source g c =
    g.met.S.ByteSource.keeps_transitive _ _ _ c.loop-byte.invariant.source_kept c.in_ok-byte.ensures.kept

pub returns-clause-kept_sink : goal.returns-clause-kept_sink
returns-clause-kept_sink g c =
    g.met.K.ByteSink.keeps_transitive _ _ _ c.loop-byte.invariant.sink_kept c.finish.ensures.puts.kept
