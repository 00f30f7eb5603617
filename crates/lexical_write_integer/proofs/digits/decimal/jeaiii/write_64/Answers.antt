use Rattle.std.proofs.Common.{arith}
use Rattle.std.proofs.lemmas.Bool.{le-ltb, lt-ltb}
use Rattle.std.proofs.lemmas.List.{append-nil}
use Rattle.lexical_write_integer.specs.DecimalTurns.{decimal_notes_32, decimal_notes_64}
use Rattle.lexical_write_integer.proofs.digits.decimal.jeaiii.write_64.Goals as goal

pub returns-then-n-lt100 : goal.returns-then-n-lt100
unfolding decimal_notes_64 decimal_notes_32
returns-then-n-lt100 c = grind (arith, append-nil)

pub returns-else-n-lt100 : goal.returns-else-n-lt100
unfolding decimal_notes_64 decimal_notes_32
returns-else-n-lt100 c = grind (arith, lt-ltb, le-ltb)
