use Rattle.std.proofs.Common.{◌≡◌, ◌<◌, ◌≤◌, ◌-◌, ◌^◌, length, false, ℕ, ℤ, Option, unsigned_abs, arith}
use Rattle.std.specs.Prelude.{max}
use Rattle.lexical_num.proofs.Magnitudes.{magnitude-small}
use Rattle.lexical_num.specs.Format.{grouped_length}
use Rattle.lexical_num.specs.Sign.{sign_of}
use Rattle.lexical_write_integer.specs.DigitCount.{digit_count}
use Rattle.lexical_write_integer.proofs.OfDigits.Count.DigitCounts.{digit_count-le_20}
use Rattle.lexical_write_integer.proofs.OfTexts.SizeBounds.{grouped_length-le, sign-le_one}
use Rattle.lexical_parts.proofs.OfTexts.Lengths.{grouped_fixed_length}
use Rattle.lexical_parts.proofs.numbers.fixed.GroupedFixedPart.text_len.Goals as goal

-- at most 20 digits are before the point
few_grouped : (grouping : Option (ℕ × ℕ)) (number : ℤ) (decimals digits whole : ℕ) {left : ℕ}
    → unsigned_abs number < 2 ^ 64
    → digits ≡ digit_count 10 (unsigned_abs number) → left ≡ digits - decimals → whole ≡ max left 1 → (whole ≤ 20)
    × (grouped_length grouping whole ≤ 39)
few_grouped grouping number decimals digits whole small count less most =
    let few : whole ≤ 20 = omega (arith, count, less, most, digit_count-le_20 _ small) in
    (few, omega (arith, grouped_length-le grouping whole 20 few (omega arith)))

pub grouped_len-requires : goal.grouped_len-requires
grouped_len-requires g c =
    let number = g.T.LexicalInteger.number c.args.self.0 in
    let small = magnitude-small _ g.met.T.LexicalInteger.bit_width number c.in_range.ensures.at_least
    c.in_range.ensures.at_most in
    omega (
      arith,
      (few_grouped c.args.self.2.now.digit_grouping number c.args.self.1 _ _ small
          c.magnitude_digits-digits.ensures c.saturating_sub.ensures c.max-whole.ensures).0,
    )

pub overflow_add-result : goal.overflow_add-result
overflow_add-result g c =
    let number = g.T.LexicalInteger.number c.args.self.0 in
    let small = magnitude-small _ g.met.T.LexicalInteger.bit_width number c.in_range.ensures.at_least
    c.in_range.ensures.at_most in
    let few = few_grouped c.args.self.2.now.digit_grouping number c.args.self.1 _ _ small
    c.magnitude_digits-digits.ensures c.saturating_sub.ensures c.max-whole.ensures in
    let sign = sign-le_one number false in
    omega (arith, sign, few.1, c.sign_len-sign.ensures, c.grouped_len.ensures)

pub overflow_add-result-2 : goal.overflow_add-result-2
overflow_add-result-2 g c =
    let number = g.T.LexicalInteger.number c.args.self.0 in
    let small = magnitude-small _ g.met.T.LexicalInteger.bit_width number c.in_range.ensures.at_least
    c.in_range.ensures.at_most in
    let few = few_grouped c.args.self.2.now.digit_grouping number c.args.self.1 _ _ small
    c.magnitude_digits-digits.ensures c.saturating_sub.ensures c.max-whole.ensures in
    let sign = sign-le_one number false in
    omega (arith, sign, few.1, c.sign_len-sign.ensures, c.grouped_len.ensures)

pub overflow_add-result-3 : goal.overflow_add-result-3
overflow_add-result-3 g c =
    let number = g.T.LexicalInteger.number c.args.self.0 in
    let small = magnitude-small _ g.met.T.LexicalInteger.bit_width number c.in_range.ensures.at_least
    c.in_range.ensures.at_most in
    let few = few_grouped c.args.self.2.now.digit_grouping number c.args.self.1 _ _ small
    c.magnitude_digits-digits.ensures c.saturating_sub.ensures c.max-whole.ensures in
    let sign = sign-le_one number false in
    omega (arith, sign, few.1, c.sign_len-sign.ensures, c.grouped_len.ensures)

pub returns-clause-length : goal.returns-clause-length
returns-clause-length g c =
    let number = g.T.LexicalInteger.number c.args.self.0 in
    let grouping = c.args.self.2.now.digit_grouping in
    let whole : c.max-whole.result ≡ max (digit_count 10 (unsigned_abs number) - c.args.self.1) 1 =
    omega (arith, c.magnitude_digits-digits.ensures, c.saturating_sub.ensures, c.max-whole.ensures) in
    let grouped = rw whole at c.grouped_len.ensures in
    let sign : c.sign_len-sign.result ≡ length (sign_of number false) = c.sign_len-sign.ensures in
    grouped_fixed_length grouping c.args.self.1 number _ c.in_range-2.ensures.groups
    (omega (arith, grouped, sign, c.min.ensures))
