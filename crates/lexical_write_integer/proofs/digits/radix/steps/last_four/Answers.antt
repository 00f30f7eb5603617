use Rattle.std.proofs.Common.{arith}
use Rattle.std.proofs.Math.Nat.{mod-lt}
use Rattle.lexical_write_integer.specs.LoopTurns.{takes_four}
use Rattle.lexical_write_integer.proofs.OfDigits.Count.RadixPowers.{power-small}
use Rattle.lexical_write_integer.proofs.digits.radix.steps.last_four.Goals as goal

pub overflow_cast-result : goal.overflow_cast-result
overflow_cast-result g c =
    let power = c.fourth_power.ensures in
    omega (arith, mod-lt c.args.value power.some, power.power, power-small g.row.R 4 c.requires.at_most_36 takes_four)

pub returns-clause-below : goal.returns-clause-below
returns-clause-below g c = omega (arith, mod-lt c.args.value c.fourth_power.ensures.some, c.fourth_power.ensures.power)
