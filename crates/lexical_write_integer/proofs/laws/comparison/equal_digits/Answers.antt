use Rattle.lexical_write_integer.proofs.OfTexts.Orders.{equal_from_IsDigits}
use Rattle.lexical_write_integer.proofs.laws.comparison.equal_digits.Goals as goal

pub returns : goal.returns
returns c = λ both. equal_from_IsDigits c.args.radix c.args.a c.args.b both.text both.is both.also
