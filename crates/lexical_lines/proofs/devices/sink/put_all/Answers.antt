use Rattle.std.proofs.Common.{◌≡◌, ◌-◌, ◌++◌, length, take, drop, sym, ap, ◌∙◌, append_assoc, ℕ, List, Ok, length-take}
use Rattle.std.proofs.Common.{length-drop, arith}
use lib.Seq.{take-add, take-take}
use Rattle.lexical_lines.specs.Sink.{put_failures}
use Rattle.lexical_lines.proofs.devices.sink.put_all.Goals as goal

-- a call that takes none of some bytes is a failure
none-taken : (bytes : List ℕ) → (length bytes ≡ 0 → ⊥) → put_failures {E = ℕ} (Ok 0) bytes ≡ 1
none-taken bytes some = grind arith

pub loop-taken-preserved : goal.loop-taken-preserved
loop-taken-preserved g c =
    let sink = g.K.ByteSink in
    let done = c.loop-taken.taken in
    let count = c.in-Ok.count in
    let all = c.args.bytes.now in
    let loop = c.loop-taken.invariant in
    let next = c.in-Ok.ensures in
    let joined = ap (λ l. take done all ++ l) (take-take count (length all - done) (drop done all) (omega arith))
    ∙ sym (take-add done count all) in
    record {
      within = omega arith;
      taken = next.taken ∙ ap (λ l. l ++ take count (take (length all - done) (drop done all))) loop.taken
          ∙ append_assoc (sink.taken c.args.sink.now) (take done all) _
          ∙ ap (λ l. sink.taken c.args.sink.now ++ l) joined;
      failures = grind (arith, next.failures, loop.failures);
      kept = g.met.K.ByteSink.keeps_transitive _ _ _ loop.kept next.kept;
    }

pub returns-in-Err-clause-failures : goal.returns-in-Err-clause-failures
returns-in-Err-clause-failures g c = omega (arith, c.in-Err.ensures.failures, c.loop-taken.invariant.failures)

pub returns-in-Ok-eq0-clause-failures : goal.returns-in-Ok-eq0-clause-failures
returns-in-Ok-eq0-clause-failures g c =
    let done = c.loop-taken.taken in
    let all = c.args.bytes.now in
    let rest = take (length all - done) (drop done all) in
    let some : length rest ≡ 0 → ⊥ =
    λ none. absurd (omega (arith, none, length-take (length all - done) (drop done all), length-drop done all)) in
    omega (
      arith,
      rw c.in-Ok-eq0.field-0-test at c.in-Ok-eq0.ensures.failures,
      c.loop-taken.invariant.failures,
      none-taken rest some,
    )

pub returns-clause-ok : goal.returns-clause-ok
returns-clause-ok g c = omega arith
