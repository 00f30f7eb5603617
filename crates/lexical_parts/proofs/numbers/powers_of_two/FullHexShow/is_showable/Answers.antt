use Rattle.std.proofs.Common.{arith}
use Rattle.lexical_parts.proofs.Equations.{only_padded}
use Rattle.lexical_parts.proofs.OfNumbers.Widths.{fits_full_hex}
use Rattle.lexical_parts.proofs.numbers.powers_of_two.FullHexShow.is_showable.Goals as goal

pub returns-clause-only : goal.returns-clause-only
returns-clause-only g c = λ _.
    only_padded 16 _ _ (omega arith) (fits_full_hex _ _ g.met.T.UnsignedInteger.range.width c.fits_bits.ensures)
