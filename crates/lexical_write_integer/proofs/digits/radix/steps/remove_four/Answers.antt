use Rattle.std.proofs.Common.{◌/◌, ap, arith}
use Rattle.lexical_write_integer.specs.LoopTurns.{takes_four}
use Rattle.lexical_write_integer.proofs.OfDigits.Count.DigitCounts.{digit_count-split}
use Rattle.lexical_write_integer.proofs.OfDigits.Radix.Loops.Divisions.{left-smaller}
use Rattle.lexical_write_integer.proofs.OfDigits.Radix.Loops.Notes.{loop_notes-after}
use Rattle.lexical_write_integer.proofs.digits.radix.steps.remove_four.Goals as goal

pub returns-clause-notes_in_loop : goal.returns-clause-notes_in_loop
returns-clause-notes_in_loop g c = grind (arith, loop_notes-after)

pub returns-clause-smaller : goal.returns-clause-smaller
returns-clause-smaller g c =
    left-smaller c.requires.radix.at_least_two takes_four c.requires.long
    (ap (λ k. c.args.value / k) c.fourth_power.ensures.power)

pub returns-clause-digits : goal.returns-clause-digits
returns-clause-digits g c = grind (arith, digit_count-split)
