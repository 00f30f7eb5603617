use Rattle.lexical_write_integer.proofs.OfTexts.Orders.{ComesBefore-IsText}
use Rattle.lexical_write_integer.proofs.laws.comparison.order.Goals as goal

pub returns : goal.returns
returns g c = λ s t.
    let two = c.in_range.ensures.mantissa.at_least_two in
    ComesBefore-IsText (g.T.LexicalInteger.number c.args.a) (g.T.LexicalInteger.number c.args.b)
    c.args.format.now s t two c.requires.a c.requires.b
