use Rattle.std.proofs.Common.{None, arith}
use Rattle.lexical_num.proofs.Magnitudes.{magnitude-small}
use Rattle.lexical_parts.proofs.OfNumbers.FixedTexts.{only_trimmed_fixed}
use Rattle.lexical_parts.proofs.OfNumbers.GroupedUnits.{grouped_fixed_room-le_39}
use Rattle.lexical_parts.proofs.OfTexts.Lengths.{only_length}
use Rattle.lexical_parts.proofs.numbers.trimmed.TrimmedFixedPart.text_len.Goals as goal

pub write_to-requires-clause-room : goal.write_to-requires-clause-room
write_to-requires-clause-room g c =
    let most = grouped_fixed_room-le_39 _ None c.args.self.1 g.met.T.LexicalInteger.bit_width
    g.met.T.LexicalInteger.decimal_width c.requires in
    omega (arith, most)

pub returns-clause-length : goal.returns-clause-length
returns-clause-length g c =
    let number = g.T.LexicalInteger.number c.args.self.0 in
    let small = magnitude-small _ g.met.T.LexicalInteger.bit_width number c.in_range.ensures.at_least
    c.in_range.ensures.at_most in
    let written = c.write_to.ensures.text in
    only_length _ written.text _ (only_trimmed_fixed c.args.self.1 number small) written.is written.count
