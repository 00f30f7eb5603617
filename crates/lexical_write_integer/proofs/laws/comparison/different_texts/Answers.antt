use Rattle.lexical_write_integer.proofs.OfTexts.Orders.{equal_from_IsText}
use Rattle.lexical_write_integer.proofs.laws.comparison.different_texts.Goals as goal

pub returns : goal.returns
returns g c = λ other text p q. other (g.met.T.LexicalInteger.equal_by_number _ _
    (equal_from_IsText _ _ c.args.format.now text p q))
