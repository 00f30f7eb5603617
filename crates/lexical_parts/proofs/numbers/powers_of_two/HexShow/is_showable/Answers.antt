use Rattle.std.proofs.Common.{arith}
use Rattle.lexical_parts.proofs.Equations.{bits-small, only_digits}
use Rattle.lexical_parts.proofs.numbers.powers_of_two.HexShow.is_showable.Goals as goal

pub returns-clause-only : goal.returns-clause-only
returns-clause-only g c = λ _. only_digits 16 _ (omega arith)
    (bits-small g.met.T.UnsignedInteger.range.width c.fits_bits.ensures)
