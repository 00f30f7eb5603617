use Rattle.std.proofs.Common.{arith}
use Rattle.lexical_write_integer.proofs.OfDigits.Count.DigitCounts.{WritesDigits-short}
use Rattle.lexical_write_integer.proofs.OfDigits.Radix.Loops.Notes.{length-more, length-compact_notes}
use Rattle.lexical_write_integer.proofs.digits.radix.compact.compact_counted.Goals as goal

pub returns-clause-turns : goal.returns-clause-turns
returns-clause-turns g c = grind (arith, length-more, length-compact_notes)

pub returns-clause-at_most : goal.returns-clause-at_most
returns-clause-at_most g c =
    let digits = rw c.as_u64.ensures at c.write_each_digit_in.ensures.digits in
    WritesDigits-short digits c.requires.radix.at_least_two g.met.T.UnsignedInteger.range.width c.fits_bits.ensures
