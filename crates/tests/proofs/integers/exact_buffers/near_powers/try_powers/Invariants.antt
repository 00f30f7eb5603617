use Rattle.std.proofs.Common.{◌≤◌, ◌*◌}
use Rattle.tests.proofs.integers.exact_buffers.near_powers.try_powers.Given as goal

abbrev pub invariant-loop-exponent : goal.invariant-loop-exponent
invariant-loop-exponent g l = l.tried ≤ 6 * l._exponent
