use Rattle.std.proofs.Common.{arith}
use Rattle.lexical_write_integer.proofs.OfTexts.SizeBounds.{need-le_size}
use Rattle.lexical_write_integer.proofs.laws.room.size_suffices_for_type.Goals as goal

pub returns : goal.returns
returns g c = grind (arith, need-le_size)
