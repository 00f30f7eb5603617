use Rattle.lexical_num.proofs.Magnitudes.{magnitude-small}
use Rattle.lexical_write_integer.proofs.OfTexts.PrintedTexts.{text_is_decimal}
use Rattle.lexical_write_integer.proofs.laws.bytes.text_is_decimal.Goals as goal

pub returns : goal.returns
returns g c =
    let small =
    magnitude-small _ g.met.T.LexicalInteger.bit_width (g.T.LexicalInteger.number c.args.number)
    c.in_range.ensures.at_least c.in_range.ensures.at_most in
    text_is_decimal (g.T.LexicalInteger.number c.args.number) c.args.text.now small c.requires
