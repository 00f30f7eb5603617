use Rattle.std.proofs.Common.{◌-◌, ◌≤◌, length, take}
use Rattle.lexical_lines.specs.Lines.{NoNewline}
use Rattle.lexical_lines.proofs.answer.newline.first_newline.Given as goal

abbrev pub invariant-loop-start : goal.invariant-loop-start
invariant-loop-start l = record {
  within : l.start ≤ length l.bytes;
  before : NoNewline (take l.start l.bytes);
}

abbrev pub decreases-loop-start : goal.decreases-loop-start
decreases-loop-start l = length l.bytes - l.start
