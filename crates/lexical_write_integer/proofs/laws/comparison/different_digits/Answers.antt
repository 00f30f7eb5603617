use Rattle.lexical_write_integer.proofs.OfTexts.Orders.{equal_from_IsDigits}
use Rattle.lexical_write_integer.proofs.laws.comparison.different_digits.Goals as goal

pub returns : goal.returns
returns c = λ other text p q. other (equal_from_IsDigits c.args.radix c.args.a c.args.b text p q)
