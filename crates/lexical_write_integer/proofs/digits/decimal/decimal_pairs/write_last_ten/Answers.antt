use Rattle.std.proofs.Common.{arith}
use Rattle.lexical_write_integer.proofs.Buffers.Blocks.{WritesBlock-next, WritesBlock-whole}
use Rattle.lexical_write_integer.proofs.digits.decimal.decimal_pairs.write_last_ten.Goals as goal

pub returns-clause-block : goal.returns-clause-block
returns-clause-block c = grind (arith, WritesBlock-next, WritesBlock-whole)
