use Rattle.std.proofs.Common.{arith}
use Rattle.lexical_write_integer.proofs.OfTexts.Grouping.Texts.{IsText-one_group, digit-in_text, mark-in_text}
use Rattle.lexical_write_integer.proofs.laws.groups.text_in_groups.Goals as goal

pub returns-clause-one_group : goal.returns-clause-one_group
returns-clause-one_group g c = grind (arith, IsText-one_group)

pub returns-clause-digits : goal.returns-clause-digits
returns-clause-digits g c = λ text plain is bare right.
    let two = c.in_range.ensures.mantissa.at_least_two in
    let some = (c.in_range.ensures.groups (c.args.size, c.args.mark) c.requires).size.at_least_one in
    digit-in_text (g.T.LexicalInteger.number c.args.number) c.args.format.now (c.args.size, c.args.mark)
    text plain right two some c.requires is bare

pub returns-clause-marks : goal.returns-clause-marks
returns-clause-marks g c = λ text is groups.
    let two = c.in_range.ensures.mantissa.at_least_two in
    let some = (c.in_range.ensures.groups (c.args.size, c.args.mark) c.requires).size.at_least_one in
    mark-in_text (g.T.LexicalInteger.number c.args.number) c.args.format.now (c.args.size, c.args.mark)
    text groups two some c.requires is
