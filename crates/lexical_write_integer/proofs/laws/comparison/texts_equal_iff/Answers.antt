use Rattle.std.proofs.Common.{ap}
use Rattle.lexical_write_integer.proofs.OfTexts.Comparisons.{texts_equal_iff}
use Rattle.lexical_write_integer.proofs.laws.comparison.texts_equal_iff.Goals as goal

pub returns : goal.returns
returns g c =
    let number = g.T.LexicalInteger.number in
    let two = c.in_range.ensures.mantissa.at_least_two in
    let same = texts_equal_iff (number c.args.a) (number c.args.b)
    c.args.format.now c.args.s.now c.args.t.now two c.requires.s c.requires.t in
    (λ texts. g.met.T.LexicalInteger.equal_by_number _ _ (same.0 texts), λ values. same.1 (ap number values))
