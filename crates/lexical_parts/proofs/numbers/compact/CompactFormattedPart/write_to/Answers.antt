use Rattle.std.specs.Prelude.{unsigned_abs}
use Rattle.std.proofs.Common.{arith}
use Rattle.lexical_write_integer.proofs.OfDigits.Count.DigitCounts.{digit_count-pos}
use Rattle.lexical_write_integer.proofs.OfTexts.Required.{grouped_length-le_need}
use Rattle.lexical_write_integer.proofs.OfTexts.SignedTexts.{WritesText-over}
use Rattle.lexical_parts.proofs.numbers.compact.CompactFormattedPart.write_to.Goals as goal

pub group_digits-requires-clause-room : goal.group_digits-requires-clause-room
group_digits-requires-clause-room g c =
    let width = g.met.T.LexicalInteger.decimal_width in
    let range = c.in_range.ensures in
    omega (
      arith,
      c.formatted_room_suffices.ensures.need,
      c.formatted_room_suffices.ensures.buffer,
      grouped_length-le_need c.args.self.1.now width range.at_least range.at_most
          c.write_digits_compactly-count.ensures.count,
    )

pub returns-clause-text : goal.returns-clause-text
returns-clause-text g c =
    let format = c.args.self.1.now in
    let some = digit_count-pos format.mantissa_radix (unsigned_abs (g.T.LexicalInteger.number c.args.self.0)) in
    let digits = c.write_digits_compactly-count.ensures in
    let sign = c.write_sign-sign in
    WritesText-over sign.ensures.sign sign.auto.buffer sign.ensures.rest (omega (arith, digits.count, some)) record {
      sign_count = sign.ensures.count;
      magnitude = digits;
      groups = c.group_digits.ensures.groups;
      total_count = c.group_digits.ensures.count;
    }

pub returns-clause-at_most : goal.returns-clause-at_most
returns-clause-at_most g c =
    let width = g.met.T.LexicalInteger.decimal_width in
    let range = c.in_range.ensures in
    omega (
      arith,
      c.formatted_room_suffices.ensures.need,
      c.formatted_room_suffices.ensures.buffer,
      c.write_sign-sign.ensures.count,
      c.group_digits.ensures.total,
      grouped_length-le_need c.args.self.1.now width range.at_least range.at_most
          c.write_digits_compactly-count.ensures.count,
    )
