use Rattle.std.proofs.Common.{arith}
use Rattle.lexical_write_integer.proofs.OfDigits.Count.DigitCounts.{digit_count-le_width}
use Rattle.lexical_write_integer.proofs.laws.digits.digit_count_within_bits.Goals as goal

pub returns : goal.returns
returns g c = grind (arith, digit_count-le_width)
