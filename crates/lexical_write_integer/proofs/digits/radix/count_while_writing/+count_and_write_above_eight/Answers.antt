use Rattle.lexical_write_integer.specs.LoopTurns.{loop_notes}
use Rattle.std.proofs.Common.{◌≡◌, ◌+◌, ◌/◌, ◌^◌, ◌++◌, ◌∙◌, arith}
use Rattle.lexical_write_integer.specs.Buffer.{WritesDigits}
use Rattle.lexical_write_integer.proofs.Buffers.BlocksAfter.{WritesDigits-after}
use Rattle.lexical_write_integer.proofs.OfDigits.Radix.Loops.Notes.{slow_notes-after}
use Rattle.lexical_write_integer.proofs.OfDigits.Radix.Loops.ShortNumbers.{IsAboveEight-of}
use Rattle.lexical_write_integer.proofs.digits.radix.count_while_writing.+count_and_write_above_eight.Goals as goal
use Rattle.lexical_write_integer.proofs.digits.radix.count_while_writing.+count_and_write_above_eight.Goals.{then-second-eighth_power}
use Rattle.lexical_write_integer.proofs.digits.radix.count_while_writing.+count_and_write_above_eight.Goals.{else-second-eighth_power}

pub remove_four-first-requires-clause-long : goal.remove_four-first-requires-clause-long
remove_four-first-requires-clause-long g t c = (IsAboveEight-of c.args.table.is_radix.at_least_two c.requires.long).value

pub remove_four-second-requires-clause-long : goal.remove_four-second-requires-clause-long
remove_four-second-requires-clause-long g t c = grind (arith, IsAboveEight-of)

pub returns-clause-digits : goal.returns-clause-digits
returns-clause-digits g t c =
    let two = c.args.table.is_radix.at_least_two in
    let r = g.row.R in
    let n = c.args.value in
    let first = c.remove_four-first.ensures in
    let second = c.remove_four-second.ensures in
    let both = IsAboveEight-of two c.requires.long in
    let head = c.if-second-eighth_power.head in
    let before : WritesDigits r c.remove_four-second.result c.args.buffer.now c.if-second-eighth_power.buffer head =
    elim c.if-second-eighth_power.branch [
      | then-second-eighth_power w ↦ rw (w.buffer-is, w.head-is) w.count_and_write_up_to_eight-head.ensures.digits
      | else-second-eighth_power w ↦ rw (w.buffer-is, w.head-is) w.count_and_write_above_eight-head.ensures.digits
    ] in
    let total : head + 4 + 4 ≡ head + 8 = omega arith in
    let four =
    WritesDigits-after (n / r ^ 4) two both.first (omega (arith, rw first.left at first.digits, c.requires.room))
    (rw (second.left, first.left) at before) (rw (c.last_four.ensures.digits, first.left) at c.write_four.ensures) in
    rw total at (WritesDigits-after n two both.value c.requires.room four
    (rw c.last_four-2.ensures.digits at c.write_four-2.ensures))

pub returns-clause-notes : goal.returns-clause-notes
returns-clause-notes g t c = grind (arith, IsAboveEight-of, slow_notes-after)

-- the check finds this proof by itself, but with an answer the refusal of a mistake says what is wrong
pub returns-clause-notes_in_loop : goal.returns-clause-notes_in_loop
returns-clause-notes_in_loop g t c =
    let before : c.if-second-eighth_power.loop_turns ≡ c.remove_four-second.new.loop_turns
    ++ loop_notes g.row.R c.remove_four-second.result =
    elim c.if-second-eighth_power.branch [
      | then-second-eighth_power w ↦ rw w.loop_turns-is w.count_and_write_up_to_eight-head.ensures.notes_in_loop
      | else-second-eighth_power w ↦ rw w.loop_turns-is w.count_and_write_above_eight-head.ensures.notes_in_loop
    ] in
    before ∙ c.remove_four-second.ensures.notes_in_loop ∙ c.remove_four-first.ensures.notes_in_loop
