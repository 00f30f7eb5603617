use Rattle.std.specs.Prelude.{unsigned_abs}
use Rattle.std.proofs.Common.{arith}
use Rattle.lexical_write_integer.specs.Text.{IsText}
use Rattle.lexical_write_integer.proofs.Buffers.Prefixes.{Writes-is}
use Rattle.lexical_write_integer.proofs.OfDigits.Count.DigitCounts.{digit_count-pos}
use Rattle.lexical_write_integer.proofs.OfTexts.Grouping.Plain.{IsText-without_separators}
use Rattle.lexical_write_integer.proofs.OfTexts.Required.{grouped_length-le_need, need-pos}
use Rattle.lexical_write_integer.proofs.OfTexts.SignedTexts.{WritesText-over}
use Rattle.lexical_write_integer.proofs.texts.to_lexical.ToLexical.write_text.Goals as goal

pub write_sign_before_digits-sign-requires : goal.write_sign_before_digits-sign-requires
write_sign_before_digits-sign-requires g c = grind (arith, need-pos)

pub group_digits-total-requires-clause-room : goal.group_digits-total-requires-clause-room
group_digits-total-requires-clause-room g c =
    let width = g.met.Self.LexicalInteger.decimal_width in
    let range = c.in_range.ensures in
    omega (
      arith,
      grouped_length-le_need c.args.format.now width range.at_least range.at_most
          c.write_magnitude-count.ensures.digits.count,
    )

pub returns-clause-text : goal.returns-clause-text
returns-clause-text g c =
    let some = digit_count-pos c.args.format.now.mantissa_radix
    (unsigned_abs (g.Self.LexicalInteger.number c.args.self)) in
    let digits = c.write_magnitude-count.ensures.digits in
    let sign = c.write_sign_before_digits-sign in
    WritesText-over sign.ensures.sign sign.auto.buffer sign.ensures.rest (omega (arith, digits.count, some)) record {
      sign_count = c.write_sign_before_digits-sign.ensures.count;
      magnitude = digits;
      groups = c.group_digits-total.ensures.groups;
      total_count = c.group_digits-total.ensures.count;
    }

pub returns-clause-at_most : goal.returns-clause-at_most
returns-clause-at_most g c =
    let width = g.met.Self.LexicalInteger.decimal_width in
    let range = c.in_range.ensures in
    let fits = grouped_length-le_need c.args.format.now width range.at_least range.at_most
    c.write_magnitude-count.ensures.digits.count in
    omega (arith, c.write_sign_before_digits-sign.ensures.count, c.group_digits-total.ensures.total, fits)

pub returns-clause-plain : goal.returns-clause-plain
returns-clause-plain g c =
    let x = g.Self.LexicalInteger.number c.args.self in
    let format = c.args.format.now in
    let valid = c.in_range-2.ensures in
    IsText-without_separators x format _ valid.mantissa.at_most_36 valid.groups
    (Writes-is {Is = IsText x format} _ _ _ (returns-clause-text g c))
