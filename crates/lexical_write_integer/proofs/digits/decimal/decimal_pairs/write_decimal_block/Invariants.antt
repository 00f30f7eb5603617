use Rattle.std.proofs.Common.{◌≡◌, ◌-◌, ◌/◌, ◌%◌, ◌^◌, ◌≤◌, length}
use Rattle.lexical_write_integer.specs.Buffer.{WritesBlock}
use Rattle.lexical_write_integer.proofs.digits.decimal.decimal_pairs.write_decimal_block.Given as goal

abbrev pub invariant-loop-at : goal.invariant-loop-at
invariant-loop-at l = record {
  block : WritesBlock 10 (length l.fn.buffer - l.at) (l.fn.number % 10 ^ (length l.fn.buffer - l.at))
      l.at l.fn.buffer l.buffer;
  rest : l.left ≡ l.fn.number / 10 ^ (length l.fn.buffer - l.at);
  within : l.at ≤ length l.fn.buffer;
  room : length l.buffer ≡ length l.fn.buffer;
}

abbrev pub decreases-loop-at : goal.decreases-loop-at
decreases-loop-at l = l.at
