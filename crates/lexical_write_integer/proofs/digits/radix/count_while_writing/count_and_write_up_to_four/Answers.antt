use Rattle.std.proofs.Common.{◌≡◌, ◌/◌, ◌≤◌, ◌^◌, ◌*◌, ◌<◌, ◌+◌, lit<, arith, append_assoc}
use Rattle.std.proofs.Math.Nat.{mod-lt}
use Rattle.std.proofs.lemmas.Nat.{div_below}
use Rattle.lexical_write_integer.specs.Buffer.{WritesDigits}
use Rattle.lexical_write_integer.specs.DigitCount.{digit_count}
use Rattle.lexical_write_integer.specs.LoopTurns.{takes_two}
use Rattle.lexical_write_integer.proofs.Buffers.BlocksAfter.{WritesDigits-after}
use Rattle.lexical_write_integer.proofs.OfDigits.Count.DigitCounts.{digit_count-split}
use Rattle.lexical_write_integer.proofs.OfDigits.Count.RadixPowers.{power-gt_one}
use Rattle.lexical_write_integer.proofs.OfDigits.Powers.{pow-two, pow-four}
use Rattle.lexical_write_integer.proofs.OfDigits.Radix.Loops.Notes.{slow_notes-pair}
use Rattle.lexical_write_integer.proofs.OfDigits.Radix.Loops.ShortNumbers.{quotient-some}
use Rattle.lexical_write_integer.proofs.digits.radix.count_while_writing.count_and_write_up_to_four.Goals as goal
use Rattle.lexical_write_integer.proofs.digits.radix.count_while_writing.count_and_write_up_to_four.Goals.{After-count_and_write_one_or_two-head}

-- the number has more than two digits if its first pair is not 0
long : (r n pair : _) → pair ≡ n / (r * r) → 0 < pair → r ^ 2 ≤ n
long r n pair is some = rw pow-two (quotient-some (r * r) n (omega (arith, is, some)))

two_more : (r n pair : _) → 2 ≤ r → pair ≡ n / (r * r) → 0 < pair → digit_count r n ≡ 2 + digit_count r pair
two_more r n pair two is some =
    rw is (omega (arith, rw pow-two at (digit_count-split r 2 n two (long r n pair is some))))

some : (r : _) → 2 ≤ r → 0 < r * r
some r two = omega (arith, pow-two r, power-gt_one r 2 two takes_two)

pub count_and_write_one_or_two-head-requires : goal.count_and_write_one_or_two-head-requires
count_and_write_one_or_two-head-requires g c =
    let r = g.row.R in
    let n = c.args.number in
    let two = c.args.table.is_radix.at_least_two in
    let is = rw c.from.ensures at c.remove_two-pair.ensures.left in
    let below : n / (r * r) < r * r = div_below n (r * r) (r * r) (some r two) (rw pow-four at c.requires.below) in
    let counted = two_more r n _ two is (omega (arith, c.if-pair-eq0.false)) in
    (lit< tt, (rw is below, omega (arith, counted, c.requires.room)))

pub write-requires : goal.write-requires
write-requires g c =
    let r = g.row.R in
    let n = c.args.number in
    let two = c.args.table.is_radix.at_least_two in
    let is = rw c.from.ensures at c.remove_two-pair.ensures.left in
    let counted = two_more r n _ two is (omega (arith, c.if-pair-eq0.false)) in (
      lit< tt,
      (
        mod-lt n (some r two),
        omega (
          arith,
          counted,
          c.requires.room,
          c.count_and_write_one_or_two-head.ensures.digits.count,
          c.count_and_write_one_or_two-head.auto.buffer,
        ),
      ),
    )

pub returns-clause-digits : goal.returns-clause-digits
returns-clause-digits g c =
    let r = g.row.R in
    let n = c.args.number in
    let head = c.count_and_write_one_or_two-head in
    let two = c.args.table.is_radix.at_least_two in
    let is = rw c.from.ensures at c.remove_two-pair.ensures.left in
    let more = long r n _ is (omega (arith, c.if-pair-eq0.false)) in
    let first : WritesDigits r (n / r ^ 2) c.args.buffer.now head.new.buffer head.result =
    rw pow-two (rw is at head.ensures.digits) in
    WritesDigits-after n {between = head.new.buffer} two more c.requires.room first (rw pow-two c.write.ensures)

pub returns-clause-notes : goal.returns-clause-notes
returns-clause-notes g c = grind (arith, long, slow_notes-pair, pow-two, append_assoc)
