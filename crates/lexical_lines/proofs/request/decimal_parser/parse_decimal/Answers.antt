use Rattle.std.proofs.Common.{get_or, arith}
use Rattle.std.proofs.lemmas.List.Elements.{All-more}
use Rattle.lexical_lines.specs.Decimal.{IsDigitByte}
use Rattle.lexical_lines.proofs.Decimals.{IsDecimalNumeral-at_least, value_of-more}
use Rattle.lexical_lines.proofs.request.decimal_parser.parse_decimal.Goals as goal

pub returns-in_err-checked_mul-clause-none : goal.returns-in_err-checked_mul-clause-none
returns-in_err-checked_mul-clause-none c = rw c.from_residual.ensures (λ number small spelled.
    let least = IsDecimalNumeral-at_least number c.args.text.now c.loop-byte.byte-index c.loop-byte-test.true spelled in
    c.in_err-checked_mul.ensures (omega (arith, c.loop-byte.invariant.value)))

pub returns-in_err-number-clause-none : goal.returns-in_err-number-clause-none
returns-in_err-number-clause-none c = grind (arith, IsDecimalNumeral-at_least)

pub loop-byte-preserved : goal.loop-byte-preserved
loop-byte-preserved c =
    let text = c.args.text.now in
    let i = c.loop-byte.byte-index in
    let digit : IsDigitByte (get_or text i 0) = let is = c.if-not-is_ascii_digit.ensures.cases in
    record { at_least = omega (arith, is); at_most = omega (arith, is) } in
    record {
      digits = All-more IsDigitByte text i 0 c.loop-byte-test.true c.loop-byte.invariant.digits digit;
      value = omega (
        arith,
        value_of-more text i c.loop-byte-test.true,
        c.loop-byte.invariant.value,
        c.in_ok-number.ensures,
        c.in_ok-checked_mul.ensures,
        c.from-digit.ensures,
      );
    }
