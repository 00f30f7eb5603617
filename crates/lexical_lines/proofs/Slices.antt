-- The source and the sink over slices, after a run.
use Rattle.std.proofs.lemmas.Grind.{common_steps}
use Rattle.std.proofs.Common.{Bool, ◌≡◌, ℕ, ◌+◌, ◌-◌, ◌≤◌, false, IsTrue, List, [], ◌++◌, length, drop, sym, ap, ◌∙◌}
use Rattle.std.proofs.Common.{arith}
use Rattle.std.proofs.lemmas.List.{append-nil, take-append-drop, drop-drop}
use Rattle.std.proofs.lemmas.Slice.{drop-put_mid}
use borrow.Rule.Slice.PartMut.{put_mid}
use Rattle.lexical_write_integer.specs.Buffer.{Writes}
use Rattle.lexical_lines.specs.RunOutcome.{BreaksOff}
use Rattle.lexical_lines.specs.declared.devices.slice.SliceSink.{SliceSink}
use Rattle.lexical_lines.specs.Slice.{KeepsSlice, SliceReading, KeepsBuffer, rest_in, taken_in}

-- a source that has reported its end has yielded all its bytes
pub yielded-ended : {a b : SliceReading} (bytes : List ℕ) → a.yielded ≡ [] → a.left ≡ bytes → a.is_ended ≡ false
    → KeepsSlice a b
    → IsTrue b.is_ended → b.yielded ≡ bytes
yielded-ended bytes none all unended kept ended = grind (arith, append-nil)

-- what a source has yielded, and then what is left, are the bytes that it had
pub yielded-part : {a b : SliceReading} (bytes : List ℕ) → a.yielded ≡ [] → a.left ≡ bytes → KeepsSlice a b
    → bytes ≡ b.yielded ++ b.left
yielded-part {a} {b} bytes none all kept = sym (kept.whole ∙ ap (λ front. front ++ a.left) none ∙ all)

-- the buffer of a sink is the bytes that it has taken, and then unchanged bytes
pub Writes-sink : {Is : List ℕ → Type 0} {a b : SliceSink} {before after : List ℕ} {count : ℕ} → taken_in a ≡ []
    → rest_in a ≡ before → KeepsBuffer a b → Is (taken_in b) → count ≡ length (taken_in b) → b.buffer.now ≡ after
    → Writes Is before after count
Writes-sink {a = a} {b = b} none all kept is counted final = grind (arith, common_steps)

-- a full buffer is exactly the bytes that the sink has taken
pub BreaksOff-full : {is_ended : Bool} {bytes : List ℕ} (b : SliceSink) {after : List ℕ} → rest_in b ≡ []
    → BreaksOff is_ended bytes (taken_in b) → b.buffer.now ≡ after → BreaksOff is_ended bytes after
BreaksOff-full b full broke final =
    let all : taken_in b ≡ b.buffer.now = grind (arith, append-nil, take-append-drop b.count b.buffer.now) in
    rw (all ∙ final) at broke

-- ---- bytes copied into a buffer

-- the bytes after them are unchanged
pub put-rest : (at count : ℕ) (buffer new : List ℕ) → at + count ≤ length buffer → length new ≡ count
    → drop (at + count) (put_mid at (at + count - at) buffer new) ≡ drop count (drop at buffer)
put-rest at count buffer new room long = grind (arith, drop-put_mid, drop-drop)
