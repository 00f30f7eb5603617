use Rattle.std.proofs.Common.{◌*◌, ◌<◌, ◌^◌, lit<, arith}
use Rattle.lexical_write_integer.proofs.OfDigits.Powers.{pow-two}
use Rattle.lexical_write_integer.proofs.OfDigits.Radix.Loops.Notes.{loop_notes-none}
use Rattle.lexical_write_integer.proofs.OfDigits.Radix.Loops.ShortNumbers.{fits-within, longer-than}
use Rattle.lexical_write_integer.proofs.digits.radix.count_then_write.write_up_to_four.Goals as goal
use Rattle.lexical_write_integer.proofs.digits.radix.count_then_write.write_up_to_four.Goals.{Else-digits-gt2}

pub write_three_or_four-requires : goal.write_three_or_four-requires
write_three_or_four-requires g c =
    let long = longer-than g.row.R c.args.number 2 (omega arith)
    (omega (arith, c.requires.digits, c.if-digits-gt2.true)) in
    rw c.from.ensures (lit< tt, (long, (c.requires.below, omega (arith, c.requires.digits, c.requires.room))))

-- at most two digits
few : (g : _) (c : Else-digits-gt2 g) → c.args.number < g.row.R ^ 2
few g c =
    fits-within g.row.R c.args.number 2 c.args.table.is_radix.at_least_two
    (omega (arith, c.requires.digits, c.if-digits-gt2.false))

pub write_pair_by_bytes-requires : goal.write_pair_by_bytes-requires
write_pair_by_bytes-requires g c =
    let below : c.args.number < g.row.R * g.row.R =
    rw pow-two at (few g (goal.at.write_pair_by_bytes-requires g c).Else-digits-gt2) in
    (lit< tt, (below, (c.requires.digits, c.requires.room)))

-- the writer notes nothing
pub returns-else-digits-gt2-clause-notes_in_loop : goal.returns-else-digits-gt2-clause-notes_in_loop
returns-else-digits-gt2-clause-notes_in_loop g c =
    let c' = (goal.at.returns-else-digits-gt2-clause-notes_in_loop g c).Else-digits-gt2 in
    loop_notes-none g.row.R c.args.number c.args.loop_turns.now c.args.table.is_radix.at_least_two (few g c')
