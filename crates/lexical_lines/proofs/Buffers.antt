-- Texts at the start of a buffer.
use Rattle.std.proofs.Common.{◌≡◌, ℕ, ◌+◌, ◌<◌, List, [], ◌∷◌, ◌++◌, length, get_or, drop, set, length-append}
use Rattle.std.proofs.Common.{append_assoc, arith}
use Rattle.std.proofs.Math.Seq.{drop-cons}
use Rattle.std.proofs.lemmas.List.{set_at}
use Rattle.lexical_write_integer.specs.Buffer.{Front}

-- another byte after a text
pub Front-push : (before between text : List ℕ) (count byte : ℕ) → count ≡ length text → Front before between text
    → count < length before → Front before (set between count byte) (text ++ byte ∷ [])
Front-push before between text count byte e front less =
    let rest : drop (length text) before ≡ get_or before count 0 ∷ drop (count + 1) before = grind (arith, drop-cons) in
    grind (arith, length-append, set_at, append_assoc)
