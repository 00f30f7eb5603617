use Rattle.std.proofs.Common.{rules, arith, w32, unsigned_abs, ◌≤◌, ◌^◌}
use Rattle.lexical_num.proofs.Magnitudes.{magnitude-small}
use Rattle.lexical_parts.proofs.OfNumbers.ScientificTexts.{only_scientific}
use Rattle.std.proofs.lemmas.Int.{ints}
use Rattle.std.specs.Int.RustNames.{FitsSigned}
use Rattle.lexical_parts.proofs.numbers.scientific.ScientificShow.is_showable.Goals as goal

pub returns-clause-only : goal.returns-clause-only
returns-clause-only g c =
    let number = g.T.LexicalInteger.number c.args.self.0 in
    let small = magnitude-small _ g.met.T.LexicalInteger.bit_width number c.in_range.ensures.at_least
    c.in_range.ensures.at_most in
    let fits : FitsSigned w32 c.args.self.1 = search rules in
    let low : unsigned_abs c.args.self.1 ≤ 2 ^ 31 = omega (arith, ints, fits) in
    λ _. only_scientific number c.args.self.1 small low
