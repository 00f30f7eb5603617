use Rattle.lexical_num.proofs.Magnitudes.{magnitude-small}
use Rattle.lexical_c.specs.declared.format.TheConstants.{DECIMAL}
use Rattle.lexical_c.proofs.WrittenTexts.{decimal_accepted, in_decimal, written}
use Rattle.lexical_c.proofs.decimal.write_decimal.Goals as goal

pub returns-then-FORMATTED_SIZE_DECIMAL-buffer : goal.returns-then-FORMATTED_SIZE_DECIMAL-buffer
returns-then-FORMATTED_SIZE_DECIMAL-buffer g c =
    let small = magnitude-small _ g.met.T.LexicalInteger.bit_width _ c.in_range.ensures.at_least
    c.in_range.ensures.at_most in
    in_decimal _ _ _ _ (written _ DECIMAL _ _ _ decimal_accepted small c.write_lexical.ensures.text)
