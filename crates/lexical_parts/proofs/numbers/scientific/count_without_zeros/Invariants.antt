use Rattle.std.proofs.Common.{◌≡◌, ◌-◌, ◌≤◌, length, drop, replicate}
use Rattle.lexical_parts.proofs.numbers.scientific.count_without_zeros.Given as goal

-- only zeros are left out so far
abbrev pub invariant-loop-count : goal.invariant-loop-count
invariant-loop-count l = record {
  some : l.least ≤ l.count;
  within : l.count ≤ length l.digits;
  zeros : drop l.count l.digits ≡ replicate (length l.digits - l.count) 48;
}

abbrev pub decreases-loop-count : goal.decreases-loop-count
decreases-loop-count l = l.count
