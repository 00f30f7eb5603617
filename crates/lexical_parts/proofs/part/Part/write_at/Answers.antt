use Rattle.std.proofs.Common.{length, ◌-◌, ◌≤◌, arith}
use Rattle.lexical_write_integer.proofs.Buffers.Prefixes.{Writes-is}
use Rattle.lexical_parts.proofs.OfLayout.Kept.{kept_after, kept_before}
use Rattle.lexical_parts.proofs.OfLayout.TextsAtIndex.{Writes-at, before_at, there_at, count_at, after_at}
use Rattle.lexical_parts.proofs.part.Part.write_at.Goals as goal

pub returns-clause-text : goal.returns-clause-text
returns-clause-text g c =
    let old = c.args.buffer.now in
    let inside : c.args.index ≤ length old = omega (arith, c.requires.room) in
    Writes-at c.args.index (length old - c.args.index) old c.write_to.new.buffer c.write_to.result inside
    c.write_to.ensures.text

pub returns-clause-front : goal.returns-clause-front
returns-clause-front g c = Writes-is c.args.buffer.now _ _ (returns-clause-text g c)

pub returns-clause-before : goal.returns-clause-before
returns-clause-before g c = before_at c.args.index c.args.buffer.now _ _ (omega (arith, c.requires.room))
    (returns-clause-text g c)

pub returns-clause-field : goal.returns-clause-field
returns-clause-field g c = there_at c.args.index c.args.buffer.now _ _ (omega (arith, c.requires.room))
    (returns-clause-text g c)

pub returns-clause-count : goal.returns-clause-count
returns-clause-count g c = count_at c.args.index c.args.buffer.now _ _ (omega (arith, c.requires.room))
    (returns-clause-text g c)

pub returns-clause-after : goal.returns-clause-after
returns-clause-after g c = after_at c.args.index c.args.buffer.now _ _ (omega (arith, c.requires.room))
    (returns-clause-text g c)

pub returns-clause-kept_before : goal.returns-clause-kept_before
returns-clause-kept_before g c = λ from to within. kept_before c.args.index _ _ (returns-clause-before g c)
    from to within

pub returns-clause-kept_after : goal.returns-clause-kept_after
returns-clause-kept_after g c = λ from to within. kept_after _ _ _ (returns-clause-after g c) from to within
