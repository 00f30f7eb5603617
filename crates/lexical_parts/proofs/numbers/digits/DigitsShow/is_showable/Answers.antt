use Rattle.lexical_parts.proofs.Equations.{bits-small, only_digits}
use Rattle.lexical_parts.proofs.numbers.digits.DigitsShow.is_showable.Goals as goal

pub returns-clause-only : goal.returns-clause-only
returns-clause-only g c = λ known.
    only_digits _ _ (c.is_known_valid_and_utf8.ensures.valid known).at_least_two
    (bits-small g.met.T.UnsignedInteger.range.width c.fits_bits.ensures)
