use Rattle.lexical_write_integer.proofs.OfTexts.Orders.{equal_from_IsPadded}
use Rattle.lexical_write_integer.proofs.laws.comparison.equal_padded.Goals as goal

pub returns : goal.returns
returns c = λ both. equal_from_IsPadded c.args.radix c.args.width c.args.a c.args.b both.text both.is both.also
