-- Prefixes of a buffer: one text after another, and what is known of the text that is written there.
use Rattle.std.proofs.lemmas.Grind.{common_steps}
use Rattle.std.proofs.Common.{◌≡◌, ℕ, ◌+◌, ◌-◌, ◌≤◌, List, [], ◌++◌, length, take, drop, refl, sym, ap, ◌∙◌, zero-add}
use Rattle.std.proofs.Common.{length-append, append_assoc, arith}
use Rattle.std.proofs.lemmas.List.{drop-drop, take_at, drop_at, length-take, length-drop, drop-append-le}
use Rattle.std.proofs.lemmas.List.{take-append-drop}
use Rattle.lexical_write_integer.specs.Buffer.{Front, Writes, WritesDigits}
use borrow.Rule.Slice.PartMut.{put_mid}

-- what is written after a text, in the first `room` bytes that follow it
pub Front-after : (before between part text following : List ℕ) (count room : ℕ)
    → count ≡ length text → Front before between text → Front (take room (drop count between)) part following
    → Front before (put_mid count room between part) (text ++ following)
Front-after before between part text following count room e front back =
    let lent = take room (drop count between) in
    let unused = drop room (drop count between) in
    let left : drop (length following) lent ++ unused ≡ drop (length following) (drop count between) =
    sym (drop-append-le (length following) lent unused back.fits)
    ∙ ap (drop (length following)) (take-append-drop room (drop count between)) in
    grind (arith, drop_at, take_at, append_assoc, drop-drop, length-append, length-take, length-drop)

-- the lengths of two texts in a row add up
pub length-after : (text following : List ℕ) (count more : ℕ) → count ≡ length text → more ≡ length following
    → count + more ≡ length (text ++ following)
length-after text following count more e f = omega (arith, length-append text following)

-- the first bytes of the buffer, as many as were written, are the text of `Writes`
pub take-Writes : {Is : List ℕ → Type 0} (before after : List ℕ) (count : ℕ) (w : Writes Is before after count)
    → take count after ≡ w.text
take-Writes before after count w = grind (arith, take_at)

-- the first bytes of the buffer, as many as were written, are a text of that kind
pub Writes-is : {Is : List ℕ → Type 0} (before after : List ℕ) (count : ℕ) → Writes Is before after count
    → Is (take count after)
Writes-is before after count w = rw (take-Writes before after count w) w.is

-- what more is known of it
pub Writes-and : {Is Also : List ℕ → Type 0} (before after : List ℕ) (count : ℕ)
    → Writes Is before after count → Also (take count after) → Writes (λ text. Is text × Also text) before after count
Writes-and {Is} {Also} before after count w also = grind (arith, common_steps)

-- a text of some kind, which is written after another text
pub Writes-after : {IsAfter IsWhole : List ℕ → Type 0} (text before between after : List ℕ) (count room more : ℕ)
    → count ≡ length text → Front before between text
    → ((following : List ℕ) → IsAfter following → IsWhole (text ++ following))
    → Writes IsAfter (take room (drop count between)) after more
    → Writes IsWhole before (put_mid count room between after) (count + more)
Writes-after text before between after count room more e front whole w = grind (arith, Front-after, length-after)

-- a text that is written in the first `room` bytes
pub Writes-part : {Is : List ℕ → Type 0} (before after : List ℕ) (room count : ℕ)
    → Writes Is (take room before) after count → Writes Is before (put_mid 0 room before after) count
Writes-part {Is} before after room count w =
    rw zero-add at
    (Writes-after {IsAfter = Is} {IsWhole = Is} [] before before after 0 room count refl record
    { fits = omega arith; written = refl }
    (λ text is. is) w)

-- digits that are written in the first `room` bytes
pub digits_in_part : (r n room : ℕ) (before after : List ℕ) (count : ℕ)
    → WritesDigits r n (take room before) after count → WritesDigits r n before (after ++ drop room before) count
digits_in_part r n room before after count digits =
    record { writes = Writes-part before after room count digits.writes; count = digits.count }

-- a text whose length is at most `room` is one of a kind that says so
pub Writes-short : {Is : List ℕ → Type 0} (room : ℕ) (before after : List ℕ) (count : ℕ)
    → Writes Is before after count → count ≤ room → Writes (λ text. Is text × (length text ≤ room)) before after count
Writes-short room before after count w short = grind arith

-- bytes that were written before are written over
pub Writes-over-all : {Is : List ℕ → Type 0} {before between after : List ℕ} {count : ℕ} (k : ℕ)
    → length between ≡ length before → drop k between ≡ drop k before → k ≤ count → Writes Is between after count
    → Writes Is before after count
Writes-over-all {before = before} {between} {count = count} k long rest some w =
    let more = length w.text - k in
    let all : k + more ≡ length w.text = omega (arith, w.count) in
    let same : drop (length w.text) between ≡ drop (length w.text) before =
    rw all at (sym (drop-drop more k between) ∙ ap (drop more) rest ∙ drop-drop more k before) in
    grind arith

-- a first byte that was written before is written over
pub Writes-over : {Is : List ℕ → Type 0} {before between after : List ℕ} {count : ℕ}
    → length between ≡ length before → drop 1 between ≡ drop 1 before → 1 ≤ count → Writes Is between after count
    → Writes Is before after count
Writes-over long rest some w = Writes-over-all 1 long rest some w
