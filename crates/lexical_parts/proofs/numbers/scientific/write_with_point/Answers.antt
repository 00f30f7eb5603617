use Rattle.std.proofs.Common.{arith}
use Rattle.lexical_parts.proofs.OfTexts.Conversions.{written_as}
use Rattle.lexical_parts.proofs.OfNumbers.Scientifics.{pointed}
use Rattle.lexical_parts.proofs.numbers.scientific.write_with_point.Goals as goal

pub returns-clause-text : goal.returns-clause-text
returns-clause-text c = λ units is. written_as (pointed units c.args.digits.now is (omega arith))
    c.write_to-2.ensures.text
