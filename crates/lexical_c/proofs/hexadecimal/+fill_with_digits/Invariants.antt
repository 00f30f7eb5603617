use Rattle.std.proofs.Common.{length}
use Rattle.lexical_c.proofs.hexadecimal.+fill_with_digits.Given as goal

abbrev pub decreases-fill_with_digits : goal.decreases-fill_with_digits
decreases-fill_with_digits l = length l.text.now
