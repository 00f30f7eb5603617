use Rattle.std.proofs.Common.{refl, sym, ◌∙◌}
use Rattle.lexical_num.proofs.Magnitudes.{magnitude-small}
use Rattle.lexical_write_integer.proofs.Buffers.Prefixes.{Writes-is}
use Rattle.lexical_c.proofs.Letters.{lowered-IsText}
use Rattle.lexical_c.proofs.PlainTexts.{only_radix, accepted}
use Rattle.lexical_c.proofs.WrittenTexts.{written, in_lowercase}
use Rattle.lexical_c.proofs.write.write_in_lowercase.Goals as goal

pub returns-in-Some : goal.returns-in-Some
returns-in-Some g c =
    let only = c.requires.only in
    let small = magnitude-small _ g.met.T.LexicalInteger.bit_width _ c.in_range.ensures.at_least
    c.in_range.ensures.at_most in
    let text = rw (c.in-Some.ensures.format ∙ sym (only_radix _ only)) at c.write_plain-count.ensures in
    let lower = lowered-IsText _ _ _ c.in-Some.ensures.radix.at_most_36 (rw only.groups refl) (Writes-is _ _ _ text) in
    in_lowercase _ c.args.format.now _ _ _ _ c.requires.lowercase
    (written _ c.args.format.now _ _ _ (accepted _ only c.in-Some.ensures.radix) small text)
    (c.set_lowercase_bit.ensures ∙ lower)
