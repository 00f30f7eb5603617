use Rattle.std.proofs.Common.{length, ◌-◌, ◌≡◌, ◌≤◌, map, take}
use Rattle.std.specs.Char.{to_ascii_lowercase}
use Rattle.std.specs.Fmt.{WritesInCalls}
use Rattle.lexical_parts.proofs.texts.lower.LoweringWrite.write_str.Given as goal

-- the text before `start` is written in lowercase
abbrev pub invariant-loop-start : goal.invariant-loop-start
invariant-loop-start g l = record {
  same : l.self.out.ghost_name ≡ l.initial.self.out.ghost_name;
  wrote : WritesInCalls g.O.Write.write_str_gives l.initial.self.out.now (map to_ascii_lowercase (take l.start l.text))
      l.self.out.now;
  within : l.start ≤ length l.text;
}

abbrev pub decreases-loop-start : goal.decreases-loop-start
decreases-loop-start g l = length l.text - l.start
