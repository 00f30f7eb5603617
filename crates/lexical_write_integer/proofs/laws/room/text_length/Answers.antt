use Rattle.lexical_write_integer.proofs.OfTexts.Required.{length-IsText}
use Rattle.lexical_write_integer.proofs.laws.room.text_length.Goals as goal

pub returns : goal.returns
returns g c = λ text.
    let valid = c.in_range.ensures in
    length-IsText (g.T.LexicalInteger.number c.args.number)
    c.args.format.now text valid.mantissa.at_least_two valid.groups
