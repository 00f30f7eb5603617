use Rattle.std.proofs.Common.{unsigned_abs, arith, rules}
use Rattle.lexical_num.specs.Format.{IsRadix}
use Rattle.lexical_write_integer.specs.Logarithm.{IsLog2}
use Rattle.lexical_write_integer.proofs.OfDigits.Count.DigitCounts.{digit_count-pos}
use Rattle.lexical_c.proofs.PlainTexts.{need_plain, digits_of_bits}
use Rattle.lexical_c.proofs.plain.format_by_bits.Goals as goal

pub returns-then-min-fast_log2-clause-room : goal.returns-then-min-fast_log2-clause-room
returns-then-min-fast_log2-clause-room g c = λ width.
    let r = c.args.radix in
    let x = g.T.LexicalInteger.number c.args.value in
    let radix : IsRadix r = search rules in
    let log2 : IsLog2 (unsigned_abs x) c.fast_log2-2.result = rw c.magnitude.ensures at c.fast_log2-2.ensures.log2 in
    let few = digits_of_bits r (unsigned_abs x) _ _ c.min.result radix.at_least_two c.fast_log2.ensures.log2 log2
    c.if-min-fast_log2.true in
    rw (c.format_in.ensures, need_plain x r width c.if-radix-eq10.false)
    (grind (
      arith,
      few,
      c.min.ensures,
      c.saturating_sub-digits.ensures,
      c.sign_len.ensures,
      digit_count-pos r (unsigned_abs x),
    ))
