use Rattle.std.proofs.Common.{arith}
use Rattle.lexical_parts.proofs.OfNumbers.FormattedRooms.{need-le_room, room-le}
use Rattle.lexical_parts.proofs.numbers.formatted.formatted_room_suffices.Goals as goal

pub returns-clause-need : goal.returns-clause-need
returns-clause-need g c = grind (arith, need-le_room)

pub returns-clause-buffer : goal.returns-clause-buffer
returns-clause-buffer g c = room-le _ c.args.format.now g.met.T.LexicalInteger.bit_width
    c.in_range-2.ensures.mantissa.at_least_two
