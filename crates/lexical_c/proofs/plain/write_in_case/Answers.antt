use Rattle.std.proofs.Common.{refl, sym, ◌∙◌}
use Rattle.lexical_num.proofs.Magnitudes.{magnitude-small}
use Rattle.lexical_write_integer.proofs.Buffers.Prefixes.{Writes-is}
use Rattle.lexical_c.proofs.Letters.{lowered-IsText}
use Rattle.lexical_c.proofs.PlainTexts.{only_radix, accepted}
use Rattle.lexical_c.proofs.WrittenTexts.{written, in_lowercase, in_uppercase}
use Rattle.lexical_c.proofs.plain.write_in_case.Goals as goal

pub returns-then-format-ne0 : goal.returns-then-format-ne0
returns-then-format-ne0 g c =
    let only = c.requires.only in
    let small = magnitude-small _ g.met.T.LexicalInteger.bit_width _ c.in_range.ensures.at_least
    c.in_range.ensures.at_most in
    let text = rw (c.requires.plain ∙ sym (only_radix _ only)) at c.write_plain-count.ensures in
    let lower = lowered-IsText _ _ _ c.requires.radix.at_most_36 (rw only.groups refl) (Writes-is _ _ _ text) in
    in_lowercase _ c.args.format.now _ _ _ _ c.if-format-ne0.true
    (written _ c.args.format.now _ _ _ (accepted _ only c.requires.radix) small text)
    (c.set_lowercase_bit.ensures ∙ lower)

pub returns-else-format-ne0 : goal.returns-else-format-ne0
returns-else-format-ne0 g c =
    let only = c.requires.only in
    let small = magnitude-small _ g.met.T.LexicalInteger.bit_width _ c.in_range.ensures.at_least
    c.in_range.ensures.at_most in
    let text = rw (c.requires.plain ∙ sym (only_radix _ only)) at c.write_plain-count.ensures in
    in_uppercase _ _ _ _ _ c.if-format-ne0.false
    (written _ c.args.format.now _ _ _ (accepted _ only c.requires.radix) small text)
