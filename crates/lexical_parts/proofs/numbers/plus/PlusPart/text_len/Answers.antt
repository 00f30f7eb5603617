use Rattle.std.proofs.Common.{◌≡◌, length, true, arith}
use Rattle.lexical_num.proofs.Magnitudes.{magnitude-small}
use Rattle.lexical_num.specs.Sign.{sign_of}
use Rattle.lexical_write_integer.proofs.OfDigits.Count.DigitCounts.{digit_count-le_20}
use Rattle.lexical_parts.proofs.OfTexts.Lengths.{decimal_length}
use Rattle.lexical_parts.proofs.numbers.plus.PlusPart.text_len.Goals as goal

pub overflow_add-result : goal.overflow_add-result
overflow_add-result g c =
    let number = g.T.LexicalInteger.number c.args.self.0 in
    let small = magnitude-small _ g.met.T.LexicalInteger.bit_width number c.in_range.ensures.at_least
    c.in_range.ensures.at_most in
    omega (arith, c.magnitude_digits.ensures, digit_count-le_20 _ small)

pub returns-clause-length : goal.returns-clause-length
returns-clause-length g c =
    let number = g.T.LexicalInteger.number c.args.self.0 in
    let sign : length (sign_of number true) ≡ 1 = grind arith in
    decimal_length number true _ (omega (arith, sign, c.magnitude_digits.ensures))
