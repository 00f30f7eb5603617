use Rattle.std.proofs.Common.{◌+◌, ◌≤◌, rules}
use mir.Val.{bool_byte}
use Rattle.std.specs.Prelude.{◌≢◌}
use Rattle.lexical_num.proofs.Magnitudes.{magnitude-below}
use Rattle.lexical_num.specs.Format.{IsRadix}
use Rattle.lexical_write_integer.specs.DigitCount.{digit_count-le_bits}
use Rattle.lexical_write_integer.proofs.OfDigits.Count.DigitCounts.{width-some}
use Rattle.lexical_c.proofs.PlainTexts.{need_plain, text_fits}
use Rattle.lexical_c.proofs.plain.fitting_format.Goals as goal

pub returns-then-is_radix-clause-room : goal.returns-then-is_radix-clause-room
returns-then-is_radix-clause-room g c = λ x low high width.
    let integer = g.met.T.LexicalInteger in
    let r = c.args.radix in
    let radix : IsRadix r = search rules in
    let other : r ≢ 10 = search rules in
    let room : g.T.LexicalInteger.BITS + bool_byte g.T.LexicalInteger.IS_SIGNED ≤ c.args.room =
    rw (c.BITS.ensures, c.from.ensures, c.IS_SIGNED.ensures) at c.if-BITS-from.true in
    let few = digit_count-le_bits r _ _ radix.at_least_two (width-some _ integer.bit_width)
    (magnitude-below _ integer.bit_width x low high) in
    rw (c.format_in.ensures, need_plain x r width other) (text_fits _ _ x r _ low room few)
