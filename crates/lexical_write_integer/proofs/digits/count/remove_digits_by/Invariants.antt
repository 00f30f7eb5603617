use Rattle.lexical_write_integer.proofs.OfDigits.Radix.Loops.Divisions.{IsDivided}
use Rattle.lexical_write_integer.proofs.digits.count.remove_digits_by.Given as goal

abbrev pub invariant-loop-power : goal.invariant-loop-power
invariant-loop-power g l =
    let magnitude = g.T.UnsignedInteger.magnitude in
    IsDivided l.radix (magnitude l.fn.value) l.step l.removed (magnitude l.left) l.fn.turns l.turns

abbrev pub decreases-loop-power : goal.decreases-loop-power
decreases-loop-power g l = g.T.UnsignedInteger.magnitude l.left
