use Rattle.std.proofs.Common.{◌≡◌, ◌+◌, ◌-◌, ◌<◌, ◌≤◌, ◌^◌, refl, sym, ◌∙◌, lit<, arith}
use Rattle.lexical_write_integer.specs.DigitCount.{digit_count}
use Rattle.lexical_write_integer.specs.LoopTurns.{takes_four}
use Rattle.lexical_write_integer.proofs.Buffers.Blocks.{IsWrittenBack-start, IsWrittenBack-at, IsWrittenBack-left}
use Rattle.lexical_write_integer.proofs.Buffers.Blocks.{IsWrittenBack-more, IsWrittenBack-last}
use Rattle.lexical_write_integer.proofs.Buffers.BlocksAfter.{WritesBlock-digits, WritesDigits-block}
use Rattle.lexical_write_integer.proofs.OfDigits.Count.DigitCounts.{digit_count-pos, digit_count-more}
use Rattle.lexical_write_integer.proofs.OfDigits.Radix.FirstDigits.{WritesBlock-first, first_four, shift-lt}
use Rattle.lexical_write_integer.proofs.OfDigits.Radix.Loops.ShortNumbers.{fits-within, longer-than}
use Rattle.lexical_write_integer.proofs.OfDigits.Count.RadixPowers.{power-small}
use Rattle.lexical_write_integer.proofs.digits.radix.count_then_write.count_then_write.Goals as goal
use Rattle.lexical_write_integer.proofs.digits.radix.count_then_write.count_then_write.Goals.{After-count_of_nonzero-count}
use Rattle.lexical_write_integer.proofs.digits.radix.count_then_write.count_then_write.Goals.{In-loop-at, After-loop-at}
use Rattle.lexical_write_integer.proofs.digits.radix.count_then_write.count_then_write.Goals.{Then-bits-2, then-bits}
use Rattle.lexical_write_integer.proofs.digits.radix.count_then_write.count_then_write.Goals.{else-bits}

-- in an iteration more than four digits are left
long : (g : _) (c : In-loop-at g) → g.row.R ^ 4 ≤ c.loop-at.left
long g c =
    let counts =
    IsWrittenBack-left c.args.table.is_radix.at_least_two c.count_of_nonzero-count.ensures.count c.loop-at.invariant.within
    c.loop-at.invariant.written in
    longer-than g.row.R c.loop-at.left 4 (omega arith) (omega (arith, counts, c.loop-at-test.true))

pub remove_four-left-requires-clause-long : goal.remove_four-left-requires-clause-long
remove_four-left-requires-clause-long g c = long g (goal.at.remove_four-left-requires-clause-long g c).In-loop-at

pub loop-at-preserved : goal.loop-at-preserved
loop-at-preserved g c =
    let c' = (goal.at.loop-at-preserved g c).In-loop-at in
    let at = c.loop-at.at in
    let count = c.count_of_nonzero-count.result in
    let order : 4 + (count - at) ≡ count - (at - 4) = omega (arith, c.loop-at-test.true, c.loop-at.invariant.within) in
    let place : at ≡ at - 4 + 4 = omega (arith, c.loop-at-test.true) in
    record {
      noted = c.remove_four-left.ensures.notes_in_loop ∙ c.loop-at.invariant.noted;
      written = rw order at (IsWrittenBack-more c.args.table.is_radix.at_least_two (long g c')
          c.remove_four-left.ensures.left
          (IsWrittenBack-at place c.loop-at.invariant.written) (rw c.last_four.ensures.digits at c.write_four.ensures));
      within = omega (arith, c.loop-at.invariant.within);
      room = c.write_four.auto.buffer ∙ c.loop-at.invariant.room;
    }

-- the remaining digits, at most four
count_left : (g : _) (c : After-loop-at g) → digit_count g.row.R c.loop-at.left ≡ c.loop-at.at
count_left g c =
    IsWrittenBack-left c.args.table.is_radix.at_least_two c.count_of_nonzero-count.ensures.count c.loop-at.invariant.within
    c.loop-at.invariant.written

short : (g : _) (c : After-loop-at g) → c.loop-at.left < g.row.R ^ 4
short g c = fits-within g.row.R c.loop-at.left 4 c.args.table.is_radix.at_least_two (omega (arith, count_left g c))

some_left : (g : _) (c : After-loop-at g) → 1 ≤ c.loop-at.at
some_left g c = omega (arith, count_left g c, digit_count-pos g.row.R c.loop-at.left)

pub loop-at-init : goal.loop-at-init
loop-at-init g c =
    let none : c.count_of_nonzero-count.result - c.count_of_nonzero-count.result ≡ 0 = omega arith in
    record { noted = refl; written = rw none IsWrittenBack-start; within = omega arith; room = refl }

-- ---- the first four digits, in a power of 2

-- there are more than four digits
more : (g : _) (c : After-count_of_nonzero-count g) → 4 < c.count_of_nonzero-count.result
more g c =
    let long : g.row.R ^ 4 ≤ c.args.value =
    omega (arith, c.if-value-fourth_power.false, c.fourth_power.ensures.power) in
    omega (
      arith,
      c.count_of_nonzero-count.ensures.count,
      digit_count-more g.row.R 4 c.args.value c.args.table.is_radix.at_least_two long,
    )

pub note_up_to_four-requires-clause-below : goal.note_up_to_four-requires-clause-below
note_up_to_four-requires-clause-below g c = short g (goal.at.note_up_to_four-requires-clause-below g c).After-loop-at

pub overflow_sub-count : goal.overflow_sub-count
overflow_sub-count g c = omega (arith, more g (goal.at.overflow_sub-count g c).After-count_of_nonzero-count)

pub overflow_shr-value : goal.overflow_shr-value
overflow_shr-value g c =
    let c' = (goal.at.overflow_shr-value g c).After-count_of_nonzero-count in
    let taken = c.count_of_nonzero-count.result - 4 in
    let some : taken < digit_count g.row.R c.args.value = omega (arith, more g c', c.count_of_nonzero-count.ensures.count) in
    shift-lt g.row.R c.fast_log2-bits.result c.args.value taken c.if-bits.true c.fast_log2-bits.ensures.within
    (omega (arith, c.ranges.value.fits)) (longer-than g.row.R c.args.value taken (omega (arith, more g c')) some)

-- what was found before the loop
first_below : (g : _) (c : Then-bits-2 g) → c.if-bits.first < g.row.R ^ 4
first_below g c = elim c.if-bits.branch [
  | then-bits w ↦ rw w.first-is w.last_four-first.ensures.below
  | else-bits w ↦ absurd (omega (arith, w.if-bits.false, c.if-bits-2.true))
]

pub write_four-requires-then-bits-2 : goal.write_four-requires-then-bits-2
write_four-requires-then-bits-2 g c =
    let long = more g (goal.at.write_four-requires-then-bits-2 g c).After-count_of_nonzero-count in (
      lit< tt,
      (
        first_below g (goal.at.write_four-requires-then-bits-2 g c).Then-bits-2,
        omega (arith, long, c.count_of_nonzero-count.ensures.count, c.requires.room, c.loop-at.invariant.room),
      ),
    )

pub returns-then-bits-2-clause-digits : goal.returns-then-bits-2-clause-digits
returns-then-bits-2-clause-digits g c =
    let long = more g (goal.at.returns-then-bits-2-clause-digits g c).After-count_of_nonzero-count in
    let r = g.row.R in
    let n = c.args.value in
    let two = c.args.table.is_radix.at_least_two in
    let count = c.count_of_nonzero-count.result in
    let at = c.loop-at.at in
    let is = c.count_of_nonzero-count.ensures.count in
    let whole : at + (count - at) ≡ count = omega (arith, c.loop-at.invariant.within) in
    let all : 4 + (count - 4) ≡ count = omega (arith, long) in
    elim c.if-bits.branch [
      | then-bits w ↦
          let first =
          w.first-is
          ∙ w.last_four-first.ensures.digits
          ∙ first_four r c.fast_log2-bits.result n count two w.if-bits.true c.fast_log2-bits.ensures.within is long in
          WritesDigits-block two (sym is) (omega (arith, is, c.requires.room))
          (WritesBlock-first r n at 4 (count - at) (count - 4)
          count two c.loop-at-test.false whole all c.loop-at.invariant.written.block
          (rw first at c.write_four-then-bits-2.ensures))
      | else-bits w ↦ absurd (omega (arith, w.if-bits.false, c.if-bits-2.true))
    ]

-- ---- the digits that are left, in another radix

pub overflow_cast-left : goal.overflow_cast-left
overflow_cast-left g c =
    omega (
      arith,
      short g (goal.at.overflow_cast-left g c).After-loop-at,
      power-small g.row.R 4 c.args.table.is_radix.at_most_36 takes_four,
    )

pub write_up_to_four-requires : goal.write_up_to_four-requires
write_up_to_four-requires g c =
    let c' = (goal.at.write_up_to_four-requires g c).After-loop-at in
    let is = c.count_of_nonzero-count.ensures.count in
    (lit< tt, (short g c', (sym (count_left g c'), omega (arith, is, c.requires.room, c.loop-at.invariant))))

pub returns-else-bits-2-clause-digits : goal.returns-else-bits-2-clause-digits
returns-else-bits-2-clause-digits g c =
    let count = c.count_of_nonzero-count.result in
    let is = c.count_of_nonzero-count.ensures.count in
    let whole : c.loop-at.at + (count - c.loop-at.at) ≡ count = omega (arith, c.loop-at.invariant.within) in
    let place : c.loop-at.at ≡ 0 + c.loop-at.at = omega arith in
    let block = IsWrittenBack-last (IsWrittenBack-at place c.loop-at.invariant.written)
    (WritesBlock-digits c.write_up_to_four.ensures.digits) in
    WritesDigits-block c.args.table.is_radix.at_least_two (sym is) (omega (arith, is, c.requires.room))
    (rw whole at block)
