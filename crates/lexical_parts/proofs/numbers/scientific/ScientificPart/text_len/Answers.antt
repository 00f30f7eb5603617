use Rattle.std.proofs.Common.{◌≤◌, ◌^◌, rules, unsigned_abs, w32, arith}
use Rattle.std.proofs.lemmas.Int.{ints}
use Rattle.std.specs.Int.RustNames.{FitsSigned}
use Rattle.lexical_num.proofs.Magnitudes.{magnitude-small}
use Rattle.lexical_parts.proofs.OfTexts.Lengths.{only_length}
use Rattle.lexical_parts.proofs.OfNumbers.ScientificTexts.{only_scientific}
use Rattle.lexical_parts.proofs.OfNumbers.Widths.{decimal_size-le_20}
use Rattle.lexical_parts.proofs.numbers.scientific.ScientificPart.text_len.Goals as goal

pub write_to-requires-clause-room : goal.write_to-requires-clause-room
write_to-requires-clause-room g c =
    let most = decimal_size-le_20 _ g.met.T.LexicalInteger.bit_width g.met.T.LexicalInteger.decimal_width
    g.met.T.FormattedSize.sizes in
    omega (arith, most)

pub returns-clause-length : goal.returns-clause-length
returns-clause-length g c =
    let number = g.T.LexicalInteger.number c.args.self.0 in
    let small = magnitude-small _ g.met.T.LexicalInteger.bit_width number c.in_range.ensures.at_least
    c.in_range.ensures.at_most in
    let fits : FitsSigned w32 c.args.self.1 = search rules in
    let low : unsigned_abs c.args.self.1 ≤ 2 ^ 31 = omega (arith, ints, fits) in
    let written = c.write_to.ensures.text in
    only_length _ written.text _ (only_scientific number c.args.self.1 small low) written.is written.count
