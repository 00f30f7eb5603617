use Rattle.lexical_num.specs.BitWidth.{is_64}
use Rattle.lexical_write_integer.proofs.OfDigits.Count.DigitCounts.{digit_count-pos, digit_count-fits, digit_count-le}
use Rattle.lexical_write_integer.proofs.OfDigits.Count.DigitCounts.{digit_count-le_64}
use Rattle.lexical_write_integer.proofs.laws.digits.digit_count_is_least.Goals as goal

pub returns-clause-at_least_one : goal.returns-clause-at_least_one
returns-clause-at_least_one c = digit_count-pos c.args.radix c.args.value

pub returns-clause-fits : goal.returns-clause-fits
returns-clause-fits c = digit_count-fits c.args.radix c.args.value c.requires.at_least_two

pub returns-clause-least : goal.returns-clause-least
returns-clause-least c = digit_count-le c.args.radix c.args.value

pub returns-clause-at_most_64 : goal.returns-clause-at_most_64
returns-clause-at_most_64 c = digit_count-le_64 c.args.radix c.args.value 64 c.requires.at_least_two is_64
    c.ranges.value.fits
