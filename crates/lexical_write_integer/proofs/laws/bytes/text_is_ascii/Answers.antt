use Rattle.std.proofs.lemmas.Str.{IsUtf8-from_ascii}
use Rattle.lexical_write_integer.proofs.OfTexts.Ascii.{IsAscii-IsText}
use Rattle.lexical_write_integer.proofs.laws.bytes.text_is_ascii.Goals as goal

pub returns-clause-ascii : goal.returns-clause-ascii
returns-clause-ascii g c =
    let few = c.in_range.ensures.mantissa.at_most_36 in
    let good = c.in_range.ensures.groups in
    IsAscii-IsText (g.T.LexicalInteger.number c.args.number) c.args.format.now c.args.text.now few good c.requires

pub returns-clause-utf8 : goal.returns-clause-utf8
returns-clause-utf8 g c = IsUtf8-from_ascii c.args.text.now (returns-clause-ascii g c)
