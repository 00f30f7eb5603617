use Rattle.std.proofs.Common.{◌^◌, ◌<◌, ◌≤◌, ℕ, get_or, arith}
use Rattle.std.proofs.lemmas.List.Elements.{All-more}
use Rattle.std.proofs.lemmas.Nat.{pow-add}
use Rattle.std.proofs.Math.Nat.{pow-le-pow_right}
use Rattle.lexical_lines.specs.Decimal.{IsDigitByte}
use Rattle.lexical_lines.proofs.Decimals.{value_of-more}
use Rattle.lexical_lines.proofs.request.decimal_parser.parse_short.Goals as goal

few : (i length : ℕ) → i < length → length ≤ 19 → 10 ^ i ≤ 10 ^ 18
few i length within most = pow-le-pow_right {n = 10} (omega arith) {i = i} {j = 18} (omega arith)

pub overflow_mul-number : goal.overflow_mul-number
overflow_mul-number c =
    record { fits = omega (arith, c.loop-byte.invariant.small, few _ _ c.loop-byte-test.true c.requires.at_most) }

pub overflow_add-number : goal.overflow_add-number
overflow_add-number c = record {
  fits = omega (
    arith,
    c.loop-byte.invariant.small,
    few _ _ c.loop-byte-test.true c.requires.at_most,
    c.from.ensures,
    c.if-digit-gt9.false,
  );
}

pub loop-byte-preserved : goal.loop-byte-preserved
loop-byte-preserved c =
    let text = c.args.text.now in
    let i = c.loop-byte.byte-index in
    let byte : get_or text i 0 < 256 = (c.type_inv.text i).fits in
    let digit : IsDigitByte (get_or text i 0) =
    record { at_least = omega (arith, c.if-digit-gt9.false); at_most = omega (arith, c.if-digit-gt9.false) } in
    record {
      digits = All-more IsDigitByte text i 0 c.loop-byte-test.true c.loop-byte.invariant.digits digit;
      value = omega (
        arith,
        value_of-more text i c.loop-byte-test.true,
        c.loop-byte.invariant.value,
        c.from.ensures,
        digit.at_least,
        digit.at_most,
      );
      small = omega (arith, c.loop-byte.invariant.small, c.from.ensures, c.if-digit-gt9.false, pow-add 10 i 1);
    }
