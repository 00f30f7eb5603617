use Rattle.std.proofs.Common.{arith}
use Rattle.lexical_num.specs.Format.{standard}
use Rattle.lexical_parts.proofs.Equations.{only_text}
use Rattle.lexical_parts.proofs.numbers.integers.U16Show.is_showable.Goals as goal

pub returns-clause-only : goal.returns-clause-only
returns-clause-only c = λ _. only_text _ standard (omega arith) (omega arith)
