-- Bytes that are inserted into a text in a buffer.
use Rattle.std.proofs.Common.{◌≡◌, ℕ, ◌+◌, ◌≤◌, List, ◌++◌, length, length-append, take, drop, sym, ap, ◌∙◌, arith}
use Rattle.std.proofs.lemmas.List.{drop-append-le, length-drop, length-take-le, take-append-drop, take-append-le}
use Rattle.std.proofs.lemmas.List.{take_at}
use Rattle.std.proofs.lemmas.Slice.{drop-append-drop}
use Rattle.lexical_write_integer.specs.Buffer.{Front}
use Rattle.lexical_write_integer.proofs.Buffers.Prefixes.{Front-after}

-- a text is written over a shorter one
pub Front-over : {before between after s t : List ℕ} → Front before between s → Front between after t
    → length s ≤ length t → Front before after t
Front-over {before} {between} {after} {s} {t} written over longer =
    grind (arith, length-append, length-drop, drop-append-drop)

-- bytes are inserted after the first `at` bytes of a text, whose last `count` bytes move to the right
pub Front-inserted : {before between part text : List ℕ} {count : ℕ} (bytes : List ℕ) (at room : ℕ)
    → Front before between text
    → at + count ≡ length text → Front (take room (drop at between)) part
    (bytes ++ take count (take room (drop at between)))
    → count ≤ length (take room (drop at between))
    → Front before (take at between ++ (part ++ drop room (drop at between))) (take at text ++ (bytes ++ drop at text))
Front-inserted {before} {between} {part} {text} {count} bytes at room front split inserted room_for =
    let rest : List ℕ = drop (length text) before in
    let lent : List ℕ = take room (drop at between) in
    let first : List ℕ = take at text in
    let back : List ℕ = drop at text in
    let first_long : length first ≡ at = length-take-le at text (omega arith) in
    let back_long : length back ≡ count = omega (arith, length-drop at text) in
    let first_is : take at between ≡ first = ap (take at) front.written ∙ take-append-le at text rest (omega arith) in
    let after : drop at between ≡ back ++ rest = ap (drop at) front.written
    ∙ drop-append-le at text rest (omega arith) in
    let back_is : take count lent ≡ back =
    sym (take-append-le count lent (drop room (drop at between)) room_for)
    ∙ ap (take count) (take-append-drop room (drop at between) ∙ after)
    ∙ take_at back rest count back_long in
    let second : Front lent part (bytes ++ back) = rw back_is at inserted in
    let kept : Front between between first = grind (arith, length-append, take-append-drop) in
    Front-over front (Front-after between between part first (bytes ++ back) at room (sym first_long) kept second)
    (omega (arith, length-append first (bytes ++ back), length-append bytes back, first_long, back_long))
