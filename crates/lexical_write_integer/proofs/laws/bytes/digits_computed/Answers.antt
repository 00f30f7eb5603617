use Rattle.lexical_write_integer.proofs.OfTexts.ComputedTexts.{digits_computed}
use Rattle.lexical_write_integer.proofs.laws.bytes.digits_computed.Goals as goal

pub returns : goal.returns
returns c = digits_computed c.args.radix c.args.value c.args.text.now c.requires.at_least_two c.ranges.value.fits
