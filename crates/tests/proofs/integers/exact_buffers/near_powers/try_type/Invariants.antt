use Rattle.std.proofs.Common.{◌≤◌, ◌*◌}
use Rattle.tests.proofs.integers.exact_buffers.near_powers.try_type.Given as goal

abbrev pub invariant-loop-radix : goal.invariant-loop-radix
invariant-loop-radix g l = l.tried ≤ 784 * l.radix
