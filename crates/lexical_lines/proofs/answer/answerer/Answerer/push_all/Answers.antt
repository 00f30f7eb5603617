use Rattle.std.proofs.Common.{◌≡◌, ◌<◌, ℕ, List, [], ◌∷◌, ◌++◌, length, take, drop, refl, sym, append_assoc}
use Rattle.std.proofs.Common.{length-append, length-drop}
use Rattle.std.proofs.Common.{take-append-drop, arith}
use Rattle.std.proofs.lemmas.List.{take_all}
use Rattle.std.proofs.lemmas.Result.{err_from_is_err_and}
use Rattle.std.proofs.Transfers.{starts_with_of_append}
use Rattle.lexical_lines.specs.Answerer.{HasAnswered}
use Rattle.lexical_lines.specs.Sink.{IsBeginning}
use Rattle.lexical_lines.proofs.Added.{added-after, grown}
use Rattle.lexical_lines.proofs.Runs.{AnswererState-more}
use Rattle.lexical_lines.proofs.answer.answerer.Answerer.push_all.Goals as goal

-- the next line of the slice
line_more : (bytes front rest end more : List ℕ) → bytes ≡ front ++ rest → rest ≡ end ++ 10 ∷ more
    → bytes ≡ (front ++ (end ++ 10 ∷ [])) ++ more
line_more bytes front rest end more e f = grind (arith, append_assoc)

-- fewer bytes than all are a proper prefix
beginning : (count : ℕ) (bytes : List ℕ) → count < length bytes → IsBeginning (take count bytes) bytes
beginning count bytes less = (
  drop count bytes,
  omega (arith, less, length-drop count bytes),
  sym (take-append-drop count bytes),
)

pub loop-tail-preserved : goal.loop-tail-preserved
loop-tail-preserved g c =
    let (front, whole, reads) = c.loop-tail.invariant.read in
    let line = c.in-Some.tail.now ++ 10 ∷ [] in
    let put = c.put_all-put.ensures in
    let answer = take c.answer_line-count.result c.answer_line-count.new.self.answer in
    let all = take_all c.put_all-put.result.0 answer (omega (arith, rw c.in_ok-put.was at put.ok)) in
    record {
      read = (
        front ++ line,
        line_more _ front _ c.in-Some.tail.now c.in-Some.more.now whole c.in-Some.ensures.found,
        λ read written h. rw (
          added-after written _ _ _ _ c.loop-tail.invariant.taken put.taken,
          all,
          sym (append_assoc read front line),
        )
            (c.answer_line-count.ensures.whole (read ++ front) _ (reads read written h)),
      );
      taken = grown _ _ _ _ _ c.loop-tail.invariant.taken put.taken;
      failures = omega (arith, rw c.in_ok-put.was at put.failures, c.loop-tail.invariant.failures);
      kept = g.met.K.ByteSink.keeps_transitive _ _ _ c.loop-tail.invariant.kept put.kept;
    }

pub returns-in_err-put-clause-err : goal.returns-in_err-put-clause-err
returns-in_err-put-clause-err g c =
    let (front, whole, reads) = c.loop-tail.invariant.read in
    let line = c.in-Some.tail.now ++ 10 ∷ [] in
    let put = c.put_all-put.ensures in
    let less = rw c.in_err-put.was at put.err in
    rw (err_from_is_err_and c.from_residual.result c.from_residual.ensures.1).1 (λ read written h. (
      front ++ line,
      simp (length-append) (omega arith),
      starts_with_of_append c.args.bytes.now (front ++ line) c.in-Some.more.now
          (line_more _ front _ c.in-Some.tail.now c.in-Some.more.now whole c.in-Some.ensures.found),
      rw (added-after written _ _ _ _ c.loop-tail.invariant.taken put.taken, sym (append_assoc read front line))
          (c.answer_line-count.ensures.part (read ++ front) _ _ (reads read written h) (beginning _ _ less)),
    ))

pub returns-clause-ok : goal.returns-clause-ok
unfolding HasAnswered
returns-clause-ok g c = λ read written h.
    let (front, whole, reads) = c.loop-tail.invariant.read in
    let so_far = reads read written h in
    rw (whole, ← append_assoc read front c.loop-tail.rest.now)
    (AnswererState-more so_far c.loop-tail.rest.now _ c.in_default.ensures.none
    (c.push_all.ensures so_far.rest so_far.last) refl refl)
