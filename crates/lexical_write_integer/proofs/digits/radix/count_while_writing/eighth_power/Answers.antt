use Rattle.std.proofs.Common.{sym, arith}
use Rattle.std.proofs.Math.Nat.{pow-le-pow_left}
use Rattle.lexical_write_integer.proofs.OfDigits.Powers.{pow-eight}
use Rattle.lexical_write_integer.proofs.digits.radix.count_while_writing.eighth_power.Goals as goal

pub overflow_mul-result : goal.overflow_mul-result
overflow_mul-result c = grind (arith, pow-eight, pow-le-pow_left)

pub returns : goal.returns
returns c = rw (c.fourth_power.ensures.power, c.fourth_power-2.ensures.power) (sym (pow-eight c.args.radix))
