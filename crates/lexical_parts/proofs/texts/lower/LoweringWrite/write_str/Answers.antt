use Rattle.std.proofs.Common.{◌≡◌, ℕ, List, ◌+◌, ◌-◌, ◌++◌, ◌∙◌, sym, ap, drop, length, map, slice_range, take, refl}
use Rattle.std.proofs.Common.{arith}
use Rattle.std.proofs.Output.{writes_in_calls_append, writes_in_calls_single}
use Rattle.std.proofs.lemmas.List.{map-append}
use Rattle.std.proofs.Math.Seq.{take-add}
use Rattle.std.specs.Char.{to_ascii_lowercase}
use Rattle.lexical_parts.proofs.texts.lower.LoweringWrite.write_str.Goals as goal

longer_piece : (text piece : List ℕ) (start : ℕ) → piece ≡ slice_range text start (start + length piece)
    → take start text ++ piece ≡ take (start + length piece) text
longer_piece text piece start is =
    let count : start + length piece - start ≡ length piece = omega arith in
    let part : piece ≡ take (length piece) (drop start text) = rw count at is in
    ap (λ x. take start text ++ x) part ∙ sym (take-add start (length piece) text)

pub loop-start-preserved : goal.loop-start-preserved
loop-start-preserved g c =
    let text = c.args.text.now in
    let piece = c.piece_at-piece.result.now in
    let is = c.to_str.ensures.text in
    let lower : c.to_str.result.now ≡ map to_ascii_lowercase piece = is.whole ∙ ap (map to_ascii_lowercase) is.is in
    let wrote = writes_in_calls_single _ _ _ _ (rw lower at (c.in_ok-write_str.ensures.ok refl)) in
    let whole : take c.loop-start.start text ++ piece ≡ take (c.loop-start.start + length piece) text =
    longer_piece text piece c.loop-start.start c.piece_at-piece.ensures.piece in
    let both = sym (map-append to_ascii_lowercase (take c.loop-start.start text) piece)
    ∙ ap (map to_ascii_lowercase) whole in
    record {
      same = c.loop-start.invariant.same;
      wrote = rw both at (writes_in_calls_append _ _ _ _ _ _ c.loop-start.invariant.wrote wrote);
      within = omega (arith, c.piece_at-piece.ensures.within);
    }
