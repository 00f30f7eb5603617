use Rattle.std.proofs.Common.{◌∙◌, rules, sym, arith}
use Rattle.std.proofs.lemmas.Int.{ints}
use Rattle.lexical_parts.proofs.OfNumbers.Scientifics.{exponent_of_digits}
use Rattle.lexical_parts.proofs.numbers.scientific.first_exponent.Goals as goal

pub returns-clause-exponent : goal.returns-clause-exponent
returns-clause-exponent c = λ number is.
    omega (arith, ints) ∙ sym (exponent_of_digits number c.args.exponent c.args.digits.now is (search rules))
