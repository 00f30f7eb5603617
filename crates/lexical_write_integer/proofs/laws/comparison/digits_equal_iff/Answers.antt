use Rattle.lexical_write_integer.proofs.OfTexts.Comparisons.{digits_equal_iff}
use Rattle.lexical_write_integer.proofs.laws.comparison.digits_equal_iff.Goals as goal

pub returns : goal.returns
returns c = digits_equal_iff c.args.radix c.args.a c.args.b c.args.s.now c.args.t.now c.requires.radix.at_least_two
    c.requires.s c.requires.t
