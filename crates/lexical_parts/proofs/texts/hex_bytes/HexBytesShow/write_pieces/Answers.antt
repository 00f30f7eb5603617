use Rattle.std.proofs.Common.{get_or, refl}
use Rattle.std.proofs.lemmas.List.{get_or_default}
use Rattle.std.proofs.Output.{writes_in_calls_single}
use Rattle.lexical_write_integer.specs.Padded.{IsPadded}
use Rattle.lexical_parts.proofs.OfLayout.Rooms.{leads_at}
use Rattle.lexical_parts.proofs.OfFormatting.ShownParts.{WritesSome-joined, written_in_one_piece}
use Rattle.lexical_parts.proofs.texts.hex_bytes.HexBytesShow.write_pieces.Goals as goal

pub loop-index-preserved : goal.loop-index-preserved
loop-index-preserved g c =
    let separator = c.args.self.1.now in
    let led = writes_in_calls_single _ _ _ _ (rw c.separator_before.ensures at (c.in_ok-write_str.ensures.ok refl)) in
    let byte = written_in_one_piece _ _ _ _ _ c.to_str.ensures.text (c.in_ok-write_str-2.ensures.ok refl) in
    let item = get_or_default c.args.self.0.now c.loop-index.index 0 (get_or c.args.self.0.now c.loop-index.index 0)
    c.loop-index-test.true in
    WritesSome-joined _ (IsPadded 16 2) separator _ c.args.self.0.now _ _ _ _ c.loop-index-test.true item
    (leads_at separator c.loop-index.index) c.loop-index.invariant led byte
