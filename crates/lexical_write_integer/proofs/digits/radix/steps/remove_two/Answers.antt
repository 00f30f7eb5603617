use Rattle.std.proofs.Common.{◌≤◌, ◌^◌, ◌*◌, arith}
use Rattle.lexical_write_integer.proofs.OfDigits.Radix.Loops.ShortNumbers.{quotient-some}
use Rattle.lexical_write_integer.proofs.OfDigits.Powers.{pow-two}
use Rattle.lexical_write_integer.proofs.OfDigits.Radix.Loops.Notes.{loop_notes-none, loop_notes-pair}
use Rattle.lexical_write_integer.proofs.digits.radix.steps.remove_two.Goals as goal

-- the quotient is noted if it is not 0
pub returns-then-left-gt0-clause-notes_in_loop : goal.returns-then-left-gt0-clause-notes_in_loop
returns-then-left-gt0-clause-notes_in_loop g c =
    let r = g.row.R in
    let n = c.args.number in
    let long : r ^ 2 ≤ n = rw pow-two (quotient-some (r * r) n (rw c.from.ensures at c.if-left-gt0.true)) in
    let pair = loop_notes-pair r n c.requires.radix.at_least_two long c.requires.below in
    rw (pair, pow-two) (rw c.from.ensures at c.tick.ensures)

pub returns-else-left-gt0-clause-notes_in_loop : goal.returns-else-left-gt0-clause-notes_in_loop
returns-else-left-gt0-clause-notes_in_loop g c = grind (arith, loop_notes-none, pow-two)
