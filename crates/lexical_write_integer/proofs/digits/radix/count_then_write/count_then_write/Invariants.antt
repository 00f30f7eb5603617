use Rattle.std.proofs.Common.{◌≡◌, ◌-◌, ◌++◌, ◌≤◌, length}
use Rattle.lexical_write_integer.specs.LoopTurns.{loop_notes}
use Rattle.lexical_write_integer.proofs.Buffers.Blocks.{IsWrittenBack}
use Rattle.lexical_write_integer.proofs.digits.radix.count_then_write.count_then_write.Given as goal

abbrev pub invariant-loop-at : goal.invariant-loop-at
invariant-loop-at g l = record {
  noted : l.loop_turns ++ loop_notes g.row.R l.left ≡ l.fn.loop_turns ++ loop_notes g.row.R l.fn.value;
  written : IsWrittenBack g.row.R l.fn.value (l.count - l.at) l.left l.at l.fn.buffer l.buffer;
  within : l.at ≤ l.count;
  room : length l.buffer ≡ length l.fn.buffer;
}

abbrev pub decreases-loop-at : goal.decreases-loop-at
decreases-loop-at g l = l.at
