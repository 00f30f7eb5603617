use Rattle.std.proofs.Common.{◌^◌, ◌<◌}
use Rattle.lexical_write_integer.proofs.OfDigits.Powers.{pow-two}
use Rattle.lexical_write_integer.proofs.OfDigits.Radix.Loops.Notes.{loop_notes-none, table_notes-are}
use Rattle.lexical_write_integer.proofs.digits.radix.count_then_write.write_one_or_two_digits.Goals as goal

-- the writer's loop notes nothing
pub returns-clause-notes : goal.returns-clause-notes
returns-clause-notes g c =
    let r = g.row.R in
    let n = c.args.number in
    let short : n < r ^ 2 = rw pow-two c.requires.below in
    table_notes-are r n c.args.turns.now _ _ c.count_one_or_two_digits-count.ensures.notes
    (loop_notes-none r n _ c.args.table.is_radix.at_least_two short)
