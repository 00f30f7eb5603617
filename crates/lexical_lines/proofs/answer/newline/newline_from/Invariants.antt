use Rattle.std.proofs.Common.{take}
use Rattle.lexical_lines.specs.Lines.{NoNewline}
use Rattle.lexical_lines.proofs.answer.newline.newline_from.Given as goal

abbrev pub invariant-loop-index : goal.invariant-loop-index
invariant-loop-index l = NoNewline (take l.index l.bytes)
