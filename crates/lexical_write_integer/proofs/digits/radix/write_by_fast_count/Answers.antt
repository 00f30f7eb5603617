use Rattle.lexical_write_integer.proofs.OfDigits.Radix.Loops.Notes.{none_noted, table_notes-are}
use Rattle.lexical_write_integer.proofs.digits.radix.write_by_fast_count.Goals as goal

pub returns-then-number-from-clause-digits : goal.returns-then-number-from-clause-digits
returns-then-number-from-clause-digits g c = c.write_one_or_two_digits.ensures.digits

-- the count notes nothing
pub returns-else-number-from-clause-notes : goal.returns-else-number-from-clause-notes
returns-else-number-from-clause-notes g c =
    let old = c.args.turns.now in
    table_notes-are g.row.R c.args.number old old _ (none_noted g.row.R c.args.number old c.requires.fast_count)
    c.count_then_write.ensures.notes_in_loop
