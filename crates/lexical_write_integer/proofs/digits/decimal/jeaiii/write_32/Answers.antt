use Rattle.std.proofs.Common.{arith}
use Rattle.lexical_write_integer.specs.DecimalTurns.{decimal_notes_32}
use Rattle.lexical_write_integer.proofs.digits.decimal.jeaiii.write_32.Goals as goal
use Rattle.lexical_write_integer.proofs.digits.decimal.jeaiii.write_32.Goals.{then-n-lt1000000000, else-n-lt1000000000}

pub returns-then-n-lt1000000 : goal.returns-then-n-lt1000000
unfolding decimal_notes_32
returns-then-n-lt1000000 c = grind arith

pub returns-after-n-lt1000000000 : goal.returns-after-n-lt1000000000
unfolding decimal_notes_32
returns-after-n-lt1000000000 c = grind arith
