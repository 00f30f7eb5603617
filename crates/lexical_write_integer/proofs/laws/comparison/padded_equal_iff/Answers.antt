use Rattle.lexical_write_integer.proofs.OfTexts.Comparisons.{padded_equal_iff}
use Rattle.lexical_write_integer.proofs.laws.comparison.padded_equal_iff.Goals as goal

pub returns : goal.returns
returns c = padded_equal_iff c.args.radix c.args.width c.args.a c.args.b c.args.s.now c.args.t.now
    c.requires.s c.requires.t
