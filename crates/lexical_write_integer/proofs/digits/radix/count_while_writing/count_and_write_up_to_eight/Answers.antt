use Rattle.std.proofs.Common.{arith}
use Rattle.lexical_write_integer.specs.LoopTurns.{takes_four}
use Rattle.lexical_write_integer.proofs.OfDigits.Count.RadixPowers.{power-small}
use Rattle.lexical_write_integer.proofs.digits.radix.count_while_writing.count_and_write_up_to_eight.Goals as goal

pub overflow_cast-value : goal.overflow_cast-value
overflow_cast-value g c =
    omega (
      arith,
      c.if-value-fourth_power.true,
      c.fourth_power.ensures.power,
      power-small g.row.R 4 c.args.table.is_radix.at_most_36 takes_four,
    )
