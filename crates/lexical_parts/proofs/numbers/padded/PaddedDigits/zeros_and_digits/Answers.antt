use Rattle.std.proofs.Common.{arith, refl}
use Rattle.lexical_write_integer.specs.DigitCount.{digit_count-le}
use Rattle.lexical_write_integer.proofs.OfDigits.Numerals.{length-IsDigits}
use Rattle.lexical_write_integer.proofs.OfDigits.PaddedDigits.{IsPadded-digits, padded_computed}
use Rattle.lexical_parts.proofs.numbers.padded.PaddedDigits.zeros_and_digits.Goals as goal

pub overflow_sub-result : goal.overflow_sub-result
overflow_sub-result g c =
    let valid = c.is_known_valid_and_utf8.ensures.valid c.if-not-is_known_valid_and_utf8.false in
    let digits = rw c.as_u64.ensures at c.to_str-digits.ensures.text in
    let count = length-IsDigits _ _ _ valid.0.at_least_two digits in
    omega (arith, count, digit_count-le _ _ c.args.self.2 (omega arith) valid.1)

pub returns-clause-text : goal.returns-clause-text
returns-clause-text g c =
    let valid = c.is_known_valid_and_utf8.ensures.valid c.if-not-is_known_valid_and_utf8.false in
    let digits = rw c.as_u64.ensures at c.to_str-digits.ensures.text in
    let count = length-IsDigits _ _ _ valid.0.at_least_two digits in
    let few = digit_count-le _ _ c.args.self.2 (omega arith) valid.1 in
    IsPadded-digits _ _ _ _ _ valid.0.at_least_two (omega (arith, count, few)) digits

pub returns-clause-computed : goal.returns-clause-computed
returns-clause-computed g c =
    let valid = c.is_known_valid_and_utf8.ensures.valid c.if-not-is_known_valid_and_utf8.false in
    (padded_computed _ _ _ _ valid.0.at_least_two valid.1).0 (returns-clause-text g c)

-- the check finds this proof by itself, but with an answer the refusal of a mistake says what is wrong
pub returns-clause-ok : goal.returns-clause-ok
returns-clause-ok g c = (λ ok. c.is_known_valid_and_utf8.ensures.valid c.if-not-is_known_valid_and_utf8.false, λ valid. refl)
