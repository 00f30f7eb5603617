use Rattle.lexical_write_integer.proofs.OfDigits.Numerals.{numeral_exists}
use Rattle.lexical_write_integer.proofs.laws.digits.numeral_exists.Goals as goal

pub returns : goal.returns
returns c = numeral_exists c.args.radix c.args.value c.requires.at_least_two
