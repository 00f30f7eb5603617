use Rattle.std.proofs.Common.{refl, arith}
use Rattle.std.proofs.Output.{writes_in_calls_single}
use Rattle.lexical_parts.proofs.formatting.limited.LimitedWrite.write_str.Goals as goal

pub returns-in-Some : goal.returns-in-Some
returns-in-Some g c = record {
  ok = λ ok. (refl, writes_in_calls_single _ _ _ _ (c.write_str.ensures.ok ok), omega (arith, c.in-Some.ensures));
}
