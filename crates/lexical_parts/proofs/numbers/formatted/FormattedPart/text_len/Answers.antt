use Rattle.std.proofs.lemmas.Grind.{common_steps}
use Rattle.std.proofs.Common.{◌≤◌, arith}
use Rattle.lexical_num.proofs.Magnitudes.{magnitude-small}
use Rattle.lexical_write_integer.specs.DigitCount.{digit_count-le_bits}
use Rattle.lexical_write_integer.proofs.OfTexts.SizeBounds.{grouped_length-le, sign-le_one}
use Rattle.lexical_parts.proofs.OfTexts.Lengths.{formatted_length}
use Rattle.lexical_parts.proofs.numbers.formatted.FormattedPart.text_len.Goals as goal

pub grouped_len-requires : goal.grouped_len-requires
grouped_len-requires g c =
    let number = g.T.LexicalInteger.number c.args.self.0 in
    let small = magnitude-small _ g.met.T.LexicalInteger.bit_width number c.in_range.ensures.at_least
    c.in_range.ensures.at_most in
    omega (
      arith,
      c.magnitude_digits-digits.ensures,
      digit_count-le_bits _ _ 64 c.mantissa_radix.ensures.radix.at_least_two (omega arith) small,
    )

pub overflow_add-result : goal.overflow_add-result
overflow_add-result g c =
    let number = g.T.LexicalInteger.number c.args.self.0 in
    let small = magnitude-small _ g.met.T.LexicalInteger.bit_width number c.in_range.ensures.at_least
    c.in_range.ensures.at_most in
    let few = digit_count-le_bits _ _ 64 c.mantissa_radix.ensures.radix.at_least_two (omega arith) small in
    let digits : c.magnitude_digits-digits.result ≤ 64 = omega (arith, c.magnitude_digits-digits.ensures, few) in
    let sign = sign-le_one number c.args.self.1.now.required_mantissa_sign in
    let grouped = grouped_length-le c.args.self.1.now.digit_grouping c.magnitude_digits-digits.result 64 digits
    (omega arith) in
    omega (arith, sign, grouped, c.sign_len.ensures, c.grouped_len.ensures)

pub returns-clause-length : goal.returns-clause-length
returns-clause-length g c = formatted_length (g.T.LexicalInteger.number c.args.self.0)
    c.args.self.1.now _ c.in_range-2.ensures.mantissa.at_least_two c.in_range-2.ensures.groups
    (grind (arith, common_steps))
