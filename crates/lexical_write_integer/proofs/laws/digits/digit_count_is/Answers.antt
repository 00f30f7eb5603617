use Rattle.lexical_write_integer.proofs.OfDigits.Count.DigitCounts.{digit_count-is}
use Rattle.lexical_write_integer.proofs.laws.digits.digit_count_is.Goals as goal

pub returns : goal.returns
returns c = digit_count-is c.args.radix c.args.value c.args.count c.requires.radix.at_least_two c.requires.some
    c.requires.fits c.requires.needed
