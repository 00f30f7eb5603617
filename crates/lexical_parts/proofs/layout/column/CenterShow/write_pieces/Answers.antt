use Rattle.std.proofs.Common.{refl}
use Rattle.lexical_parts.proofs.OfFormatting.ShownParts.{WritesSome-centered}
use Rattle.lexical_parts.proofs.layout.column.CenterShow.write_pieces.Goals as goal

pub returns : goal.returns
returns g c = λ ok.
    let before = rw c.saturating_sub-added.ensures at (c.in_ok-write_copies.ensures refl) in
    let after = rw c.saturating_sub-added.ensures at (c.write_copies-2.ensures ok) in
    WritesSome-centered _ _ _ _ _ _ _ _ _ before (c.in_ok-write_exactly.ensures refl) after
