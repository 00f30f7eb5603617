-- An answer for each clause, by the cases of what `answer_blocks` returns, with which the writer is flushed.
use Rattle.std.proofs.Common.{◌≡◌, ◌≤◌, Bool, true, false, Result, arith}
use Rattle.std.specs.Prelude.{IfOk, OnOk, OnErr}
use Rattle.lexical_lines.specs.ExitStatus.{status_of}
use Rattle.lexical_lines.proofs.stream_answers.answer_stream.Goals as goal

if_at_most_1 : {E P : Type 0} (ran : Result Bool E) → OnOk ran P → status_of ran true ≤ 1 → P
if_at_most_1 ran ok low = grind arith

if_0 : {E : Type 0} (P : Bool → Type 0) (ran : Result Bool E) → IfOk ran P → status_of ran true ≡ 0 → P true
if_0 P ran ok is = grind arith

if_1 : {E : Type 0} (P : Bool → Type 0) (ran : Result Bool E) → IfOk ran P → status_of ran true ≡ 1 → P false
if_1 P ran ok is = grind arith

if_2 : {E P : Type 0} (ran : Result Bool E) → OnErr ran P → status_of ran true ≡ 2 → P
if_2 ran err is = grind arith

at_most_2 : {E : Type 0} (ran : Result Bool E) → status_of ran true ≤ 2
at_most_2 ran = grind arith

pub returns-clause-range : goal.returns-clause-range
returns-clause-range g c = rw c.status.ensures (at_most_2 c.answer_blocks.result)

pub returns-clause-answered : goal.returns-clause-answered
returns-clause-answered g c = λ low. if_at_most_1 c.answer_blocks.result c.answer_blocks.ensures.ok
    (rw c.status.ensures at low)

pub returns-clause-valid : goal.returns-clause-valid
returns-clause-valid g c = λ is. if_0 _ c.answer_blocks.result c.answer_blocks.ensures.valid (rw c.status.ensures at is)

pub returns-clause-bad : goal.returns-clause-bad
returns-clause-bad g c = λ is. if_1 _ c.answer_blocks.result c.answer_blocks.ensures.valid (rw c.status.ensures at is)

pub returns-clause-failed : goal.returns-clause-failed
returns-clause-failed g c = λ is. if_2 c.answer_blocks.result c.answer_blocks.ensures.err (rw c.status.ensures at is)
