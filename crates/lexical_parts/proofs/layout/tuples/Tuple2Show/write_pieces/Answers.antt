use Rattle.std.proofs.Common.{refl}
use Rattle.lexical_parts.proofs.OfFormatting.ShownParts.{WritesSome-then}
use Rattle.lexical_parts.proofs.layout.tuples.Tuple2Show.write_pieces.Goals as goal

pub returns : goal.returns
returns g c = λ ok. WritesSome-then _ _ _ _ _ _ (c.in_ok-write_pieces.ensures refl) (c.write_pieces-2.ensures ok)
