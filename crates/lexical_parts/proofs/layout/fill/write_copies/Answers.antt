use Rattle.std.proofs.Common.{◌≡◌, ◌+◌, ◌*◌, ◌/◌, ◌%◌, refl, arith}
use Rattle.std.proofs.Output.{writes_in_calls_append, writes_in_calls_nil, writes_in_calls_single}
use Rattle.std.proofs.Math.Nat.{div-add-mod'}
use Rattle.lexical_parts.proofs.OfFormatting.ShownNumbers.{replicate_and}
use Rattle.lexical_parts.proofs.layout.fill.write_copies.Goals as goal

pub loop-init : goal.loop-init
loop-init g c = writes_in_calls_nil _ _

pub loop-preserved : goal.loop-preserved
loop-preserved g c =
    let one = writes_in_calls_single _ _ _ _ (c.in_ok-write_run.ensures refl) in
    let more : c.loop.counter * 64 + 64 ≡ (c.loop.counter + 1) * 64 = omega arith in
    rw (replicate_and c.args.byte (c.loop.counter * 64) 64, more) at
    (writes_in_calls_append _ _ _ _ _ _ c.loop.invariant one)

pub returns : goal.returns
returns g c = λ ok.
    let rest = writes_in_calls_single _ _ _ _ (c.write_run-2.ensures ok) in
    let runs : c.loop.counter ≡ c.args.count / 64 = omega (arith, c.loop-test.false, c.loop.auto.counter-end) in
    let count : c.loop.counter * 64 + c.args.count % 64 ≡ c.args.count = rw (← runs) at (div-add-mod' c.args.count 64) in
    rw (replicate_and c.args.byte (c.loop.counter * 64) (c.args.count % 64), count) at
    (writes_in_calls_append _ _ _ _ _ _ c.loop.invariant rest)
