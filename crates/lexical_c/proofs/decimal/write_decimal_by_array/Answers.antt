use Rattle.std.proofs.Common.{arith}
use Rattle.lexical_num.proofs.Magnitudes.{magnitude-small}
use Rattle.lexical_c.specs.declared.format.TheConstants.{DECIMAL}
use Rattle.lexical_c.proofs.WrittenTexts.{count-le, count-length, decimal_accepted, in_decimal, length-written}
use Rattle.lexical_c.proofs.WrittenTexts.{written_by_copy, refused}
use Rattle.lexical_c.proofs.decimal.write_decimal_by_array.Goals as goal

pub slice_bounds-copy_to_front-end : goal.slice_bounds-copy_to_front-end
slice_bounds-copy_to_front-end g c = count-length _ _ _ c.write_lexical-count.ensures.text

pub slice_bounds-text-end : goal.slice_bounds-text-end
slice_bounds-text-end g c = count-le _ _ _ c.write_lexical-count.ensures.text

pub returns-then-count-buffer : goal.returns-then-count-buffer
returns-then-count-buffer g c =
    let small = magnitude-small _ g.met.T.LexicalInteger.bit_width _ c.in_range.ensures.at_least
    c.in_range.ensures.at_most in
    in_decimal _ _ _ _
    (written_by_copy _ DECIMAL _ _ _ _ _ _ decimal_accepted small c.write_lexical-count.ensures.text
    c.copy_to_front.ensures.front c.copy_to_front.ensures.count)

pub returns-else-count-buffer : goal.returns-else-count-buffer
returns-else-count-buffer g c =
    let small = magnitude-small _ g.met.T.LexicalInteger.bit_width _ c.in_range.ensures.at_least
    c.in_range.ensures.at_most in
    let computed = length-written _ _ _ _ _ decimal_accepted.valid.mantissa.at_least_two small
    c.write_lexical-count.ensures.text in
    refused _ _ _ _ (λ writable. omega (arith, computed, writable.fits))
