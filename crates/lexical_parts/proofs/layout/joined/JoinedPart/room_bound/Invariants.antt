use Rattle.std.proofs.Common.{◌+◌, ◌-◌, ◌*◌, ◌≤◌, length, take}
use Rattle.std.specs.Prelude.{min}
use Rattle.std.specs.List.{sum_by}
use Rattle.lexical_parts.proofs.layout.joined.JoinedPart.room_bound.Given as goal

-- at least the room of the parts so far, and of all separators
abbrev pub invariant-loop-part : goal.invariant-loop-part
invariant-loop-part g l =
    min (sum_by g.P.Part.room (take l.part-index l.self.0.now) + (length l.self.0.now - 1)
    * length l.self.1.now) 18446744073709551615 ≤ l.bound
