use Rattle.std.proofs.Common.{arith}
use Rattle.lexical_parts.proofs.OfNumbers.EqualBytes.{equal_bytes, equal_lower_bytes}
use Rattle.lexical_parts.proofs.laws.equal.equal_hex_bytes.Goals as goal

pub returns-clause-text : goal.returns-clause-text
returns-clause-text c = equal_bytes 16 2 (omega arith) (omega arith) _ _ _

pub returns-clause-lowercase : goal.returns-clause-lowercase
returns-clause-lowercase c = equal_lower_bytes 16 2 (omega arith) (omega arith) _ _ _
