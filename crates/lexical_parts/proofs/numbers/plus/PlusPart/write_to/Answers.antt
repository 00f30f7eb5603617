use Rattle.std.proofs.Common.{arith}
use Rattle.lexical_write_integer.proofs.OfTexts.Sequences.{written_then}
use Rattle.lexical_parts.proofs.OfTexts.Conversions.{IsPlus-from_then, written_as}
use Rattle.lexical_parts.proofs.OfNumbers.Widths.{few_digits}
use Rattle.lexical_parts.proofs.numbers.plus.PlusPart.write_to.Goals as goal

pub returns-clause-text : goal.returns-clause-text
returns-clause-text g c =
    written_as IsPlus-from_then (written_then _ _ _ _ _ _ _ _ c.write_to-start.ensures.text
    c.write_magnitude.ensures.digits.writes)

pub returns-clause-at_most : goal.returns-clause-at_most
returns-clause-at_most g c =
    let few = few_digits g.met.T.LexicalInteger.decimal_width c.in_range.ensures.at_least c.in_range.ensures.at_most in
    omega (arith, few, c.write_magnitude.ensures.digits.count, c.write_to-start.ensures.at_most)
