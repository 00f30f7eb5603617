use Rattle.std.proofs.Common.{arith}
use Rattle.lexical_write_integer.proofs.OfDigits.Count.DigitCounts.{WritesDigits-short}
use Rattle.lexical_write_integer.proofs.OfDigits.Radix.Loops.Notes.{table_turns-are, table_turns-few}
use Rattle.lexical_write_integer.proofs.digits.radix.algorithm.algorithm_counted.Goals as goal

pub returns-clause-turns : goal.returns-clause-turns
returns-clause-turns g c = let written = c.write_digits_in_radix.ensures in
    table_turns-are _ _ _ _ _ written.notes written.digits.count

pub returns-clause-few_turns : goal.returns-clause-few_turns
returns-clause-few_turns g c = grind (arith, table_turns-few)

pub returns-clause-at_most : goal.returns-clause-at_most
returns-clause-at_most g c =
    WritesDigits-short c.write_digits_in_radix.ensures.digits c.requires.radix.at_least_two
    g.met.T.UnsignedInteger.range.width c.fits_bits.ensures

-- the check finds this proof by itself, but with an answer the refusal of a mistake says what is wrong
pub returns-clause-digits : goal.returns-clause-digits
returns-clause-digits g c = c.write_digits_in_radix.ensures.digits
