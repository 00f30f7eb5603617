use Rattle.std.proofs.Common.{arith}
use Rattle.lexical_parts.proofs.Equations.{only_padded}
use Rattle.lexical_parts.proofs.numbers.padded.PaddedShow.is_showable.Goals as goal

pub returns-clause-only : goal.returns-clause-only
returns-clause-only g c = λ known. only_padded 10 _ _ (omega arith) (c.is_known_valid_and_utf8.ensures.valid known)
