use Rattle.std.proofs.Math.Nat.{one-le-pow}
use Rattle.std.proofs.Common.{sym, arith}
use Rattle.lexical_write_integer.proofs.OfDigits.Powers.{pow-four}
use Rattle.lexical_write_integer.proofs.digits.radix.steps.fourth_power.Goals as goal

pub returns-clause-power : goal.returns-clause-power
returns-clause-power c = rw c.from-square.ensures (sym (pow-four c.args.radix))

pub returns-clause-some : goal.returns-clause-some
returns-clause-some c =
    rw c.from-square.ensures (rw pow-four at (one-le-pow 4 c.args.radix (omega (arith, c.requires.at_least_two))))
