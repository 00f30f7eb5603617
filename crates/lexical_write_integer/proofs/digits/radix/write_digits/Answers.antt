use Rattle.std.proofs.Common.{◌≡◌, ◌++◌, ap, sym, arith}
use Rattle.lexical_write_integer.specs.Buffer.{WritesDigits}
use Rattle.lexical_write_integer.specs.LoopTurns.{count_notes, loop_notes, takes_four}
use Rattle.lexical_write_integer.proofs.OfDigits.Count.RadixPowers.{power-small}
use Rattle.lexical_write_integer.proofs.OfDigits.Radix.Loops.Notes.{slow_noted, table_notes-are}
use Rattle.lexical_write_integer.proofs.digits.radix.write_digits.Goals as goal
use Rattle.lexical_write_integer.proofs.digits.radix.write_digits.Goals.{then-number-fourth_power}
use Rattle.lexical_write_integer.proofs.digits.radix.write_digits.Goals.{else-number-fourth_power+then-number-eighth_power}
use Rattle.lexical_write_integer.proofs.digits.radix.write_digits.Goals.{else-number-fourth_power+else-number-eighth_power}

pub overflow_cast-number : goal.overflow_cast-number
overflow_cast-number g c =
    omega (
      arith,
      c.if-number-fourth_power.true,
      c.fourth_power.ensures.power,
      power-small g.row.R 4 c.requires.radix.at_most_36 takes_four,
    )

pub returns : goal.returns
returns g c =
    let r = g.row.R in
    let n = c.as_u64-number.result in
    let old = c.args.turns.now in
    let after = c.if-number-fourth_power in
    let turns = after.turns in
    let none = c.new-loop_turns.ensures in
    let by_turns = sym c.if-has_fast_count.ensures in
    let all : WritesDigits r n c.args.buffer.now after.buffer after.count × (turns ≡ old ++ count_notes r n)
    × (after.loop_turns ≡ loop_notes r n) =
    elim after.branch [
      | then-number-fourth_power w ↦
          let all = w.count_and_write_up_to_four-count.ensures in (
            rw (w.buffer-is, w.count-is) all.digits,
            rw w.turns-is (slow_noted r n old _ by_turns all.notes),
            rw w.loop_turns-is (rw none at all.notes_in_loop),
          )
      | else-number-fourth_power+then-number-eighth_power w ↦
          let all = w.count_and_write_five_to_eight.ensures in (
            rw (w.buffer-is, w.count-is) all.digits,
            rw w.turns-is (slow_noted r n old _ by_turns all.notes),
            rw w.loop_turns-is (rw none at all.notes_in_loop),
          )
      | else-number-fourth_power+else-number-eighth_power w ↦
          let all = w.count_and_write_above_eight.ensures in (
            rw (w.buffer-is, w.count-is) all.digits,
            rw w.turns-is (slow_noted r n old _ by_turns all.notes),
            rw w.loop_turns-is (rw none at all.notes_in_loop),
          )
    ] in
    rw (← c.as_u64-number.ensures, c.append.ensures)
    (record { digits = all.0; notes = table_notes-are r n old turns _ all.1 (ap (λ ys. turns ++ ys) all.2) })
