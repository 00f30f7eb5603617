use Rattle.std.proofs.Common.{sym, ◌∙◌}
use Rattle.lexical_num.proofs.Magnitudes.{magnitude-small}
use Rattle.lexical_c.proofs.PlainTexts.{only_radix, accepted}
use Rattle.lexical_c.proofs.WrittenTexts.{written, in_either_case}
use Rattle.lexical_c.proofs.write.write_caseless_in_radix.Goals as goal

pub returns-in-Some : goal.returns-in-Some
returns-in-Some g c =
    let only = c.requires.only in
    let small = magnitude-small _ g.met.T.LexicalInteger.bit_width _ c.in_range.ensures.at_least
    c.in_range.ensures.at_most in
    in_either_case _ c.args.format.now _ _ _ only.groups c.requires.case
    (written _ c.args.format.now _ _ _ (accepted _ only c.in-Some.ensures.radix) small
    (rw (c.in-Some.ensures.format ∙ sym (only_radix _ only)) at c.write_plain.ensures))
