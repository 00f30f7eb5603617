use Rattle.lexical_write_integer.proofs.OfTexts.Orders.{equal_from_IsPadded}
use Rattle.lexical_write_integer.proofs.laws.comparison.different_padded.Goals as goal

pub returns : goal.returns
returns c = λ other text p q. other (equal_from_IsPadded c.args.radix c.args.width c.args.a c.args.b text p q)
