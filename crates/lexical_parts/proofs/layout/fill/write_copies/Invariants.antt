use Rattle.std.proofs.Common.{◌*◌, replicate}
use Rattle.std.specs.Fmt.{WritesInCalls}
use Rattle.lexical_parts.proofs.layout.fill.write_copies.Given as goal

-- some runs of 64 copies are written
abbrev pub invariant-loop : goal.invariant-loop
invariant-loop g l = WritesInCalls g.O.Write.write_str_gives l.fn.out (replicate (l.counter * 64) l.fn.byte) l.out
