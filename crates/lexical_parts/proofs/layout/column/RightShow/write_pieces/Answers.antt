use Rattle.std.proofs.Common.{refl}
use Rattle.lexical_parts.proofs.OfFormatting.ShownParts.{WritesSome-right}
use Rattle.lexical_parts.proofs.layout.column.RightShow.write_pieces.Goals as goal

pub returns : goal.returns
returns g c = λ ok.
    let filled = rw c.saturating_sub.ensures at (c.in_ok-write_copies.ensures refl) in
    WritesSome-right _ _ _ _ _ _ _ _ filled (c.write_exactly.ensures ok)
