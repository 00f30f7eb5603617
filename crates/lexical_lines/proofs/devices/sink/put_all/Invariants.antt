-- The sink has taken the bytes so far, and no call has failed.
use Rattle.std.proofs.Common.{◌≡◌, ◌-◌, ◌≤◌, ◌++◌, length, take}
use Rattle.lexical_lines.proofs.devices.sink.put_all.Given as goal

abbrev pub invariant-loop-taken : goal.invariant-loop-taken
invariant-loop-taken g l =
    let sink = g.K.ByteSink in
    record {
      within : l.taken ≤ length l.bytes;
      taken : sink.taken l.sink ≡ sink.taken l.initial.sink ++ take l.taken l.bytes;
      failures : sink.failures l.sink ≡ sink.failures l.initial.sink;
      kept : sink.keeps l.initial.sink l.sink;
    }

abbrev pub decreases-loop-taken : goal.decreases-loop-taken
decreases-loop-taken g l = length l.bytes - l.taken
