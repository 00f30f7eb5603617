use Rattle.std.proofs.Common.{◌-◌, ◌≤◌, length}
use Rattle.lexical_write_integer.proofs.Buffers.Blocks.{IsWrittenBack}
use Rattle.lexical_write_integer.proofs.OfDigits.Radix.Loops.Divisions.{IsDivided}
use Rattle.lexical_write_integer.proofs.digits.radix.compact.write_to_end.Given as goal

abbrev pub invariant-loop-left : goal.invariant-loop-left
invariant-loop-left g l = record {
  within : l.index ≤ length l.fn.buffer;
  written : IsWrittenBack g.row.R l.fn.value (length l.fn.buffer - l.index) l.left l.index l.fn.buffer l.buffer;
  divided : IsDivided g.row.R l.fn.value 1 (length l.fn.buffer - l.index) l.left l.fn.turns l.turns;
}

abbrev pub decreases-loop-left : goal.decreases-loop-left
decreases-loop-left g l = l.left
