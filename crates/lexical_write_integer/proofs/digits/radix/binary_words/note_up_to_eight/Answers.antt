use Rattle.std.proofs.Common.{arith}
use Rattle.lexical_write_integer.proofs.OfDigits.Radix.Loops.Notes.{loop_notes-after}
use Rattle.lexical_write_integer.proofs.digits.radix.binary_words.note_up_to_eight.Goals as goal

pub returns : goal.returns
returns c =
    loop_notes-after 2 c.args.number c.args.turns.now c.tick.new.self c.note_up_to_four-2.new.loop_turns (omega arith)
    c.if-number-lt16.false
    c.tick.ensures c.note_up_to_four-2.ensures.notes_in_loop
