use Rattle.std.proofs.Common.{length, refl, ap, arith, rules}
use Rattle.std.proofs.lemmas.Bool.{false≢true}
use Rattle.lexical_num.specs.Format.{IsValid}
use Rattle.lexical_write_integer.specs.Computed.{text_of}
use Rattle.lexical_num.proofs.Magnitudes.{magnitude-small}
use Rattle.lexical_c.proofs.WrittenTexts.{count-le, count-length, length-written, written, written_by_copy, refused}
use Rattle.lexical_c.proofs.general.write_uppercase.Goals as goal

pub returns-in_default : goal.returns-in_default
returns-in_default g c = refused _ _ _ _ (λ writable. false≢true (c.in_default.ensures.valid.1 writable.accepted))

pub returns-then-buffer-buffer_size : goal.returns-then-buffer-buffer_size
returns-then-buffer-buffer_size g c =
    let accepted = c.in-Some.ensures.valid.0 refl in
    let small = magnitude-small _ g.met.T.LexicalInteger.bit_width _ c.in_range.ensures.at_least
    c.in_range.ensures.at_most in
    written _ c.args.format.now _ _ _ accepted small (rw c.in-Some.ensures.format at c.write_text.ensures.text)

pub slice_bounds-copy_to_front-end : goal.slice_bounds-copy_to_front-end
slice_bounds-copy_to_front-end g c = count-length _ _ _ c.write_text-count.ensures.text

pub slice_bounds-text-end : goal.slice_bounds-text-end
slice_bounds-text-end g c = count-le _ _ _ c.write_text-count.ensures.text

pub returns-then-count-buffer : goal.returns-then-count-buffer
returns-then-count-buffer g c =
    let accepted = c.in-Some.ensures.valid.0 refl in
    let small = magnitude-small _ g.met.T.LexicalInteger.bit_width _ c.in_range.ensures.at_least
    c.in_range.ensures.at_most in
    written_by_copy _ c.args.format.now _ _ _ _ _ _ accepted small
    (rw c.in-Some.ensures.format at c.write_text-count.ensures.text)
    c.copy_to_front.ensures.front c.copy_to_front.ensures.count

pub returns-else-count-buffer : goal.returns-else-count-buffer
returns-else-count-buffer g c =
    let valid : IsValid c.in-Some.format = search rules in
    let small = magnitude-small _ g.met.T.LexicalInteger.bit_width _ c.in_range.ensures.at_least
    c.in_range.ensures.at_most in
    let computed = length-written _ _ _ _ _ valid.mantissa.at_least_two small c.write_text-count.ensures.text in
    let same = ap (λ format. length (text_of (g.T.LexicalInteger.number c.args.value) format))
    c.in-Some.ensures.format in
    refused _ _ _ _ (λ writable. omega (arith, same, computed, writable.fits))
