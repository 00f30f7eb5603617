use Rattle.std.proofs.Common.{refl}
use Rattle.lexical_write_integer.proofs.Buffers.Blocks.{WritesBlock-whole}
use Rattle.lexical_write_integer.proofs.digits.decimal.decimal_pairs.write_four_at.Goals as goal

pub returns-clause-block : goal.returns-clause-block
returns-clause-block c = WritesBlock-whole {n = c.args.number} refl c.write_pair_at.ensures.block
    c.write_pair_at-2.ensures.block
