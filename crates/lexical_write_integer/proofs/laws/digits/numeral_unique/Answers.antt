use Rattle.lexical_write_integer.proofs.OfDigits.Numerals.{numeral_unique}
use Rattle.lexical_write_integer.proofs.laws.digits.numeral_unique.Goals as goal

pub returns : goal.returns
returns c = numeral_unique c.args.radix c.args.a.now c.args.b.now c.requires.a c.requires.b c.requires.same
