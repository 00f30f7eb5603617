use Rattle.std.proofs.Common.{arith}
use Rattle.lexical_parts.proofs.OfNumbers.Widths.{hex_digits}
use Rattle.lexical_parts.proofs.numbers.powers_of_two.HexPart.write_to.Goals as goal

pub write_in_constant_radix-requires-clause-room : goal.write_in_constant_radix-requires-clause-room
write_in_constant_radix-requires-clause-room g c =
    omega (arith, c.requires.room, hex_digits _ _ g.met.T.UnsignedInteger.range.width c.fits_bits.ensures)

pub returns-clause-text : goal.returns-clause-text
returns-clause-text g c = c.write_in_constant_radix.ensures.digits.writes

pub returns-clause-at_most : goal.returns-clause-at_most
returns-clause-at_most g c = omega (
  arith,
  c.write_in_constant_radix.ensures.digits.count,
  hex_digits _ _ g.met.T.UnsignedInteger.range.width c.fits_bits.ensures,
)
