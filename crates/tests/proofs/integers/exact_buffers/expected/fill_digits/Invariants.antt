use Rattle.std.proofs.Common.{◌≤◌, ◌+◌, ◌-◌, ◌*◌}
use Rattle.tests.proofs.integers.exact_buffers.expected.fill_digits.Given as goal

-- each iteration writes a digit, and each iteration except the first at most one separator
abbrev pub invariant-loop-count : goal.invariant-loop-count
invariant-loop-count l = record {
  room : 129 ≤ l.start + 2 * l.count + (1 - l.count);
  within : l.start ≤ 128;
}
