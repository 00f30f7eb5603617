use Rattle.std.proofs.Common.{arith}
use Rattle.lexical_write_integer.proofs.OfDigits.Count.DigitCounts.{WritesDigits-short}
use Rattle.lexical_write_integer.proofs.digits.write.WriteInteger.write_integer_signed.Goals as goal

pub returns-then-radix-eq10-clause-at_most : goal.returns-then-radix-eq10-clause-at_most
returns-then-radix-eq10-clause-at_most g c =
    WritesDigits-short c.decimal_signed.ensures.digits (omega arith)
    g.met.Self.UnsignedInteger.range.width c.fits_bits.ensures

pub returns-else-radix-eq10-clause-at_most : goal.returns-else-radix-eq10-clause-at_most
returns-else-radix-eq10-clause-at_most g c =
    WritesDigits-short c.write_in_radix.ensures.digits c.requires.radix.at_least_two
    g.met.Self.UnsignedInteger.range.width c.fits_bits.ensures

-- the check finds this proof by itself, but with an answer the refusal of a mistake says what is wrong
pub returns-then-radix-eq10-clause-digits : goal.returns-then-radix-eq10-clause-digits
returns-then-radix-eq10-clause-digits g c = rw c.if-radix-eq10.true c.decimal_signed.ensures.digits
