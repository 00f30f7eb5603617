use Rattle.std.proofs.Common.{refl}
use Rattle.lexical_parts.proofs.OfFormatting.ShownParts.{WritesSome-left}
use Rattle.lexical_parts.proofs.layout.column.LeftShow.write_pieces.Goals as goal

pub returns : goal.returns
returns g c = λ ok.
    let filled = rw c.saturating_sub.ensures at (c.write_copies.ensures ok) in
    WritesSome-left _ _ _ _ _ _ _ _ (c.in_ok-write_exactly.ensures refl) filled
