use Rattle.std.proofs.Common.{◌≡◌, refl, arith, add-one}
use Rattle.std.proofs.Output.{has_written_styled_nil, has_written_styled_append, has_written_styled_of_eq}
use Rattle.std.proofs.Padding.{repeat_more}
use Rattle.lexical_parts.proofs.formatting.shown.format_fill.Goals as goal

pub loop-init : goal.loop-init
loop-init g c = λ p. has_written_styled_nil _ _ p

pub loop-preserved : goal.loop-preserved
loop-preserved g c = λ p.
    let so_far = c.loop.invariant p in
    let one = rw (c.encode_utf8-fill.ensures.value, c.fill.ensures) at
    (c.in_ok-write_str.ensures.styled so_far.flush refl) in
    has_written_styled_of_eq _ _ _ _ _ (rw add-one (repeat_more c.loop.counter _))
    (has_written_styled_append _ _ _ _ _ _ so_far one)

pub returns : goal.returns
returns g c = λ p ok.
    let count : c.loop.counter ≡ c.args.count = omega (arith, c.loop-test.false, c.loop.auto.counter-end) in
    rw (← count) (c.loop.invariant p)
