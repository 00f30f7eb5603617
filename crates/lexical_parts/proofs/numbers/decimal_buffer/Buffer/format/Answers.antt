use Rattle.std.proofs.Common.{arith}
use Rattle.lexical_parts.proofs.OfNumbers.Widths.{decimal_size-le_20}
use Rattle.lexical_parts.proofs.numbers.decimal_buffer.Buffer.format.Goals as goal

pub to_str-text-requires-clause-room : goal.to_str-text-requires-clause-room
to_str-text-requires-clause-room g c =
    let most = decimal_size-le_20 _ g.met.T.LexicalInteger.bit_width g.met.T.LexicalInteger.decimal_width
    g.met.T.FormattedSize.sizes in
    omega (arith, most)

pub returns : goal.returns
returns g c =
    let most = decimal_size-le_20 _ g.met.T.LexicalInteger.bit_width g.met.T.LexicalInteger.decimal_width
    g.met.T.FormattedSize.sizes in
    (c.to_str-text.ensures.text, (cc, omega (arith, most, c.to_str-text.ensures.at_most)))
