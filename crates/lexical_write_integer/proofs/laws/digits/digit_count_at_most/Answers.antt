use Rattle.lexical_write_integer.proofs.OfDigits.Count.DigitCounts.{digit_count-le}
use Rattle.lexical_write_integer.proofs.laws.digits.digit_count_at_most.Goals as goal

pub returns : goal.returns
returns c = digit_count-le c.args.radix c.args.value c.args.count c.requires.some c.requires.fits
