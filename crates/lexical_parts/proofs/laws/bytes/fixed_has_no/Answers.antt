use Rattle.std.proofs.Common.{arith}
use Rattle.lexical_parts.proofs.OfNumbers.FixedBytes.{fixed_has_no}
use Rattle.lexical_parts.proofs.laws.bytes.fixed_has_no.Goals as goal

pub returns : goal.returns
returns g c = fixed_has_no c.args.separator (λ d small same. grind arith) c.requires.point c.requires.minus _ _
