use Rattle.std.proofs.Common.{ap}
use Rattle.lexical_lines.proofs.Writers.{appends-taken}
use Rattle.lexical_lines.proofs.devices.stream.WritingByteSink.put.Goals as goal

pub returns-clause-kept : goal.returns-clause-kept
returns-clause-kept g c = rw (← c.self.view_is) (record {
  more = _;
  taken = ap (λ t. t.bytes) c.record_put.ensures;
  unflushed = ap (λ t. t.unflushed) c.record_put.ensures;
  contents = appends-taken _ _ c.write-outcome.result c.args.bytes.now c.write-outcome.ensures.bytes;
  flushes = ap (λ t. t.flushes) c.record_put.ensures;
})

-- the check finds this proof by itself, but with an answer the refusal of a mistake says what is wrong
pub returns-clause-taken : goal.returns-clause-taken
returns-clause-taken g c = rw (← c.self.view_is) (ap (λ t. t.bytes) c.record_put.ensures)
