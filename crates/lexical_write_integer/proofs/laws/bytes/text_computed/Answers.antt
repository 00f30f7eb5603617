use Rattle.lexical_write_integer.proofs.OfTexts.ComputedTexts.{text_computed}
use Rattle.lexical_num.proofs.Magnitudes.{magnitude-small}
use Rattle.lexical_write_integer.proofs.laws.bytes.text_computed.Goals as goal

pub returns : goal.returns
returns g c =
    let two = c.in_range-2.ensures.mantissa.at_least_two in
    let small =
    magnitude-small _ g.met.T.LexicalInteger.bit_width (g.T.LexicalInteger.number c.args.number)
    c.in_range.ensures.at_least c.in_range.ensures.at_most in
    text_computed (g.T.LexicalInteger.number c.args.number) c.args.format.now c.args.text.now two small
