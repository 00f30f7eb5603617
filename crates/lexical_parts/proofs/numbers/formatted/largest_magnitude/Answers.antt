use Rattle.lexical_parts.proofs.OfNumbers.FormattedRooms.{signed-largest}
use Rattle.std.proofs.Common.{sym}
use Rattle.lexical_parts.proofs.numbers.formatted.largest_magnitude.Goals as goal

pub returns-then-IS_SIGNED : goal.returns-then-IS_SIGNED
returns-then-IS_SIGNED g c =
    rw (c.BITS.ensures, sym c.IS_SIGNED.ensures, c.if-IS_SIGNED.true) (signed-largest g.met.T.LexicalInteger.bit_width)
