use Rattle.std.proofs.Common.{◌≡◌, ◌+◌, ◌-◌, ◌*◌, ◌%◌, ◌^◌, ◌<◌, ◌∙◌, lit<, arith}
use Rattle.std.proofs.Math.Nat.{mod-lt, div-add-mod'}
use Rattle.std.proofs.lemmas.Nat.{div_below, pow-add}
use Rattle.lexical_write_integer.specs.LoopTurns.{takes_four}
use Rattle.lexical_write_integer.proofs.Buffers.BlocksAfter.{WritesDigits-after}
use Rattle.lexical_write_integer.proofs.OfDigits.Count.RadixPowers.{power-small, power-gt_one}
use Rattle.lexical_write_integer.proofs.OfDigits.Radix.Loops.Notes.{slow_notes-after}
use Rattle.lexical_write_integer.proofs.digits.radix.count_while_writing.count_and_write_five_to_eight.Goals as goal
use Rattle.lexical_write_integer.proofs.digits.radix.count_while_writing.count_and_write_five_to_eight.Goals.{After-remove_four-left}
use Rattle.lexical_write_integer.proofs.digits.radix.count_while_writing.count_and_write_five_to_eight.Goals.{After-fourth_power}

-- the number without its last four digits has at most four
left_short : (g : _) (c : After-remove_four-left g) → c.remove_four-left.result < g.row.R ^ 4
left_short g c =
    let some : 0 < g.row.R ^ 4 = omega (arith, power-gt_one g.row.R 4 c.args.table.is_radix.at_least_two takes_four) in
    rw c.remove_four-left.ensures.left (div_below c.args.value (g.row.R ^ 4) (g.row.R ^ 4) some
    (rw (pow-add g.row.R 4 4) at c.requires.below))

pub overflow_cast-left : goal.overflow_cast-left
overflow_cast-left g c =
    omega (
      arith,
      left_short g (goal.at.overflow_cast-left g c).After-remove_four-left,
      power-small g.row.R 4 c.args.table.is_radix.at_most_36 takes_four,
    )

pub count_and_write_up_to_four-head-requires : goal.count_and_write_up_to_four-head-requires
count_and_write_up_to_four-head-requires g c =
    let c' = (goal.at.count_and_write_up_to_four-head-requires g c).After-remove_four-left in
    (lit< tt, (left_short g c', omega (arith, c.remove_four-left.ensures.digits, c.requires.room)))

parts : (g : _) (c : After-fourth_power g) → c.remove_four-left.result * c.fourth_power.result
    + c.args.value % g.row.R ^ 4 ≡ c.args.value
parts g c = rw (c.remove_four-left.ensures.left, c.fourth_power.ensures.power) (div-add-mod' c.args.value (g.row.R ^ 4))

last_short : (g : _) (c : After-fourth_power g) → c.args.value - c.remove_four-left.result
    * c.fourth_power.result < g.row.R ^ 4
last_short g c = omega (arith, parts g c, mod-lt c.args.value c.fourth_power.ensures.some, c.fourth_power.ensures.power)

pub overflow_cast-last : goal.overflow_cast-last
overflow_cast-last g c =
    let below = last_short g (goal.at.overflow_cast-last g c).After-fourth_power in
    omega (arith, below, power-small g.row.R 4 c.args.table.is_radix.at_most_36 takes_four)

pub returns-clause-digits : goal.returns-clause-digits
returns-clause-digits g c =
    let last : c.args.value - c.remove_four-left.result * c.fourth_power.result ≡ c.args.value % g.row.R ^ 4 =
    omega (arith, parts g (goal.at.returns-clause-digits g c).After-fourth_power) in
    grind (arith, WritesDigits-after)

pub returns-clause-notes : goal.returns-clause-notes
returns-clause-notes g c = grind (arith, slow_notes-after)

-- the check finds this proof by itself, but with an answer the refusal of a mistake says what is wrong
pub returns-clause-notes_in_loop : goal.returns-clause-notes_in_loop
returns-clause-notes_in_loop g c = c.count_and_write_up_to_four-head.ensures.notes_in_loop
    ∙ c.remove_four-left.ensures.notes_in_loop
