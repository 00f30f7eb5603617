use Rattle.std.proofs.Common.{◌≡◌, ◌||◌, ap, sym, refl, length, length-take, arith}
use Rattle.lexical_lines.proofs.Readers.{ReadConsumes-limited, KeepsReader-read}
use Rattle.lexical_lines.proofs.devices.stream.ReadingBlockSource.read_block.Goals as goal

-- the check finds three of these proofs by itself, but with answers the refusals of mistakes say what is wrong

pub returns-in-Ok-clause-ended : goal.returns-in-Ok-clause-ended
returns-in-Ok-clause-ended g c = rw (sym c.self.view_is) (ap (λ end. c.self.inside.is_ended || end) (grind arith))

pub returns-then-self-eq0-clause-remaining : goal.returns-then-self-eq0-clause-remaining
returns-then-self-eq0-clause-remaining g c = omega (arith, ap (λ r. r.left) c.self.view_is)

pub returns-in-Ok-clause-kept : goal.returns-in-Ok-clause-kept
returns-in-Ok-clause-kept g c =
    let read = c.in-Ok.ensures in
    let size : length c.read.new.buf ≡ c.min-size.result =
    omega (arith, c.read.auto.buf, c.min-size.ensures, length-take c.min-size.result c.args.block.now) in
    let yielded = ap (λ t. t.bytes) c.note.ensures in
    rw (sym c.self.view_is) (KeepsReader-read _ _ _ c.read.new.buf _
    (omega (arith, size, c.min-size.ensures, c.requires, c.if-self-eq0.false))
    (omega (arith, read.bound)) read.bytes g.R.Read.remaining _ _ refl refl c.if-self-eq0.false
    (omega (arith, size, c.min-size.ensures, read.bound)) yielded refl)

pub returns-in-Ok-clause-bytes : goal.returns-in-Ok-clause-bytes
returns-in-Ok-clause-bytes g c =
    let read = c.in-Ok.ensures in
    let size : length c.read.new.buf ≡ c.min-size.result =
    omega (arith, c.read.auto.buf, c.min-size.ensures, length-take c.min-size.result c.args.block.now) in
    rw (sym c.self.view_is) (ReadConsumes-limited _ _ _ c.read.new.buf _
    (omega (arith, size, c.min-size.ensures, c.requires, c.if-self-eq0.false))
    (omega (arith, read.bound)) read.bytes _ _ (omega (arith, size, c.min-size.ensures, read.bound)))

pub returns-in-Err-clause-failures : goal.returns-in-Err-clause-failures
returns-in-Err-clause-failures g c =
    omega (arith, ap (λ r. r.failures) c.self.view_is, ap (λ t. t.failures) c.fault.ensures)
