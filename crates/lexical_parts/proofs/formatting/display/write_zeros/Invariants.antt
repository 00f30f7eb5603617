use Rattle.std.proofs.Common.{replicate}
use Rattle.std.specs.Fmt.{IsFlush, HasWrittenStyled}
use Rattle.lexical_parts.proofs.formatting.display.write_zeros.Given as goal

-- some zeros are written
abbrev pub invariant-loop : goal.invariant-loop
invariant-loop g l = IsFlush l.fn.f → HasWrittenStyled g.W.Write.write_str_gives l.fn.f (replicate l.counter 48) l.f
