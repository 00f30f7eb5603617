use Rattle.lexical_write_integer.proofs.OfTexts.Orders.{equal_from_IsText}
use Rattle.lexical_write_integer.proofs.laws.comparison.equal_texts.Goals as goal

pub returns : goal.returns
returns g c = λ both.
    g.met.T.LexicalInteger.equal_by_number _ _ (equal_from_IsText _ _ c.args.format.now both.text both.is both.also)
