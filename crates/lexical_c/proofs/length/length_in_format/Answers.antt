use Rattle.lexical_num.specs.Format.{grouped_length}
use Rattle.lexical_c.specs.Format.{format_of}
use Rattle.lexical_c.proofs.WrittenTexts.{grouped_length-pos}
use Rattle.std.proofs.Common.{◌≤◌, unsigned_abs, refl, ap, ◌∙◌, arith}
use Rattle.lexical_write_integer.proofs.OfDigits.Count.DigitCounts.{digit_count-pos, digit_count-le_bits}
use Rattle.lexical_num.proofs.Magnitudes.{magnitude-small}
use Rattle.lexical_write_integer.proofs.OfTexts.SizeBounds.{grouped_length-le, sign-le_one}
use Rattle.lexical_c.proofs.TextLengths.{length-text_of}
use Rattle.lexical_c.proofs.length.length_in_format.Goals as goal
use Rattle.lexical_c.proofs.length.length_in_format.Goals.{After-sign_len}

few : (g : _) (c : After-sign_len g) → c.magnitude_digits-digits.result ≤ 64
few g c = grind (arith, digit_count-le_bits)

pub grouped_len-requires : goal.grouped_len-requires
grouped_len-requires g c = omega (arith, few g (goal.at.grouped_len-requires g c).After-sign_len)

pub overflow_add-result : goal.overflow_add-result
overflow_add-result g c =
    let format = c.in-Some.format in
    let few = few g (goal.at.overflow_add-result g c).After-sign_len in
    let fewer = grouped_length-le format.digit_grouping c.magnitude_digits-digits.result 64 few (omega arith) in
    let sign = sign-le_one (g.T.LexicalInteger.number c.args.value) format.required_mantissa_sign in
    omega (arith, c.sign_len.ensures, sign, c.grouped_len.ensures, fewer)

pub returns : goal.returns
returns g c =
    let accepted = c.in-Some.ensures.valid.0 refl in
    let number = g.T.LexicalInteger.number c.args.value in
    let small = magnitude-small _ g.met.T.LexicalInteger.bit_width number c.in_range.ensures.at_least
    c.in_range.ensures.at_most in
    let text = length-text_of number (format_of c.args.format.now) accepted.valid small in
    let digits = digit_count-pos c.in-Some.format.mantissa_radix (unsigned_abs number) in
    let count = rw c.mantissa_radix.ensures.value at c.magnitude_digits-digits.ensures in
    let groups = c.grouped_len.ensures ∙ ap (grouped_length c.in-Some.format.digit_grouping) count in
    let some = grouped_length-pos c.in-Some.format.digit_grouping _ digits in
    record {
      accepts = (λ _. accepted, λ _. omega (arith, groups, some));
      count = λ _. omega (
        arith,
        text,
        rw c.in-Some.ensures.format at groups,
        rw c.in-Some.ensures.format at c.sign_len.ensures,
      );
    }
