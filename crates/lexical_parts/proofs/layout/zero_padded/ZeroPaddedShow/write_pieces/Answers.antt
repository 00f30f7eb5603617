use Rattle.std.proofs.Common.{refl, rules}
use Rattle.lexical_parts.proofs.OfTexts.ZeroPaddings.{WritesSome-zeros, adding_closed}
use Rattle.lexical_parts.proofs.layout.zero_padded.ZeroPaddedShow.write_pieces.Goals as goal

pub returns : goal.returns
returns g c = λ ok.
    let some = c.in_ok-write_exactly.ensures refl in
    let closed = adding_closed g.O.Write.write_str_gives (λ t. t.out) (λ t. t.zeros) _ _ _ some.wrote in
    let name = closed.0 in
    let rest = rw closed.2 at (c.write_copies.ensures ok) in
    let whole = WritesSome-zeros _ _ _ _ _ _ _ _ _ c.saturating_sub.ensures some.is closed.1 rest in
    let wrote = whole.wrote in
    record { text = whole.text; is = whole.is; wrote = search rules }
