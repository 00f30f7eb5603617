use Rattle.std.proofs.Common.{false, arith}
use Rattle.lexical_write_integer.proofs.OfTexts.ReadTexts.{are_read}
use Rattle.lexical_parts.proofs.OfNumbers.FixedReads.{fixed_read}
use Rattle.lexical_parts.proofs.laws.read_back.fixed_read_back.Goals as goal

pub returns : goal.returns
returns g c = are_read 10 (g.T.LexicalInteger.number c.args.number) false (omega arith) _
    (λ text is. fixed_read c.args.decimals _ text is)
