use Rattle.lexical_write_integer.proofs.OfTexts.Orders.{IsEarlier-IsPadded}
use Rattle.lexical_write_integer.proofs.laws.comparison.padded_order.Goals as goal

pub returns : goal.returns
returns c = IsEarlier-IsPadded c.args.radix c.args.width c.args.a c.args.b c.args.s.now c.args.t.now
    c.requires.s c.requires.t
