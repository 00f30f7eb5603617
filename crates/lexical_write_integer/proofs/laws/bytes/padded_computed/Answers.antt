use Rattle.lexical_write_integer.proofs.OfDigits.PaddedDigits.{padded_computed}
use Rattle.lexical_write_integer.proofs.laws.bytes.padded_computed.Goals as goal

pub returns : goal.returns
returns c = padded_computed c.args.radix c.args.width c.args.value c.args.text.now c.requires.radix.at_least_two
    c.requires.fits
