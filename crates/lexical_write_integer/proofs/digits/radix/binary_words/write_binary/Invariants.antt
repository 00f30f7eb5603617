use Rattle.std.proofs.Common.{◌≡◌, ◌-◌, ◌++◌, ◌<◌, ◌≤◌, length}
use Rattle.lexical_write_integer.specs.LoopTurns.{loop_notes}
use Rattle.lexical_write_integer.proofs.Buffers.Blocks.{IsWrittenBack}
use Rattle.lexical_write_integer.proofs.digits.radix.binary_words.write_binary.Given as goal

abbrev pub invariant-loop-at : goal.invariant-loop-at
invariant-loop-at l = record {
  noted : l.turns ++ loop_notes 2 l.left ≡ l.fn.turns ++ loop_notes 2 l.fn.value;
  written : IsWrittenBack 2 l.fn.value (l.count - l.at) l.left l.at l.fn.buffer l.buffer;
  more : 8 < l.at;
  within : l.at ≤ l.count;
  room : length l.buffer ≡ length l.fn.buffer;
}

abbrev pub decreases-loop-at : goal.decreases-loop-at
decreases-loop-at l = l.at
