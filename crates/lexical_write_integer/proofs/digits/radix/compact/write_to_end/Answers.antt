use Rattle.std.proofs.Common.{◌≡◌, ◌+◌, ◌-◌, ◌%◌, ◌^◌, ◌<◌, ◌/◌, ◌≤◌, length, set, refl, arith}
use Rattle.std.proofs.Math.Nat.{sub_self, mod-lt}
use Rattle.lexical_num.specs.Digit.{digit_char}
use Rattle.lexical_write_integer.specs.Buffer.{WritesBlock}
use Rattle.lexical_write_integer.specs.DigitCount.{digit_count}
use Rattle.lexical_write_integer.specs.LoopTurns.{takes_one}
use Rattle.lexical_write_integer.proofs.Buffers.Blocks.{IsWrittenBack-start, IsWrittenBack-at, IsWrittenBack-counts}
use Rattle.lexical_write_integer.proofs.Buffers.Blocks.{IsWrittenBack-more, IsWrittenBack-last, IsDigits-block}
use Rattle.lexical_write_integer.proofs.Buffers.Blocks.{WritesBlock-one}
use Rattle.lexical_write_integer.proofs.OfDigits.Count.DigitCounts.{digit_count-one}
use Rattle.lexical_write_integer.proofs.OfDigits.Radix.Loops.Divisions.{IsDivided-start, IsDivided-room, IsDivided-more}
use Rattle.lexical_write_integer.proofs.OfDigits.Radix.Loops.Divisions.{RemovesDigits-end}
use Rattle.lexical_write_integer.proofs.OfDigits.Radix.Loops.Notes.{compact_notes-are}
use Rattle.lexical_write_integer.proofs.OfDigits.Powers.{pow-one}
use Rattle.lexical_write_integer.proofs.digits.radix.compact.write_to_end.Goals as goal
use Rattle.lexical_write_integer.proofs.digits.radix.compact.write_to_end.Goals.{In-loop-left, After-loop-left}

long : (g : _) (c : In-loop-left g) → g.row.R ^ 1 ≤ c.loop-left.left
long g c = rw pow-one (omega arith)

-- the next digit has room, and so have those before it
room : (g : _) (c : In-loop-left g) → length c.args.buffer.now - c.loop-left.index
    + 1 < digit_count g.row.R c.args.value
room g c = IsDivided-room c.requires.radix.at_least_two c.loop-left.invariant.divided (long g c)

block : (g : _) (c : In-loop-left g)
    → WritesBlock g.row.R 1 (c.loop-left.left % g.row.R ^ 1) (c.loop-left.index - 1) c.loop-left.buffer
    (set c.loop-left.buffer (c.loop-left.index - 1) (digit_char (c.loop-left.left % c.from-radix.result)))
block g c = grind (arith, pow-one, WritesBlock-one, mod-lt, room)

pub loop-left-init : goal.loop-left-init
loop-left-init g c = search (arith, sub_self, IsWrittenBack-start, IsDivided-start)

pub loop-left-preserved : goal.loop-left-preserved
loop-left-preserved g c =
    let c' = (goal.at.loop-left-preserved g c).In-loop-left in
    let two = c.requires.radix.at_least_two in
    let taken = length c.args.buffer.now - c.loop-left.index in
    let place : c.loop-left.index ≡ c.loop-left.index - 1 + 1 =
    omega (arith, room g c', IsWrittenBack-counts two c.loop-left.invariant.written) in
    let turn : taken + 1 ≡ length c.args.buffer.now - (c.loop-left.index - 1) = omega (arith, place) in
    let order : 1 + taken ≡ length c.args.buffer.now - (c.loop-left.index - 1) = omega (arith, place) in
    let next : c.loop-left.left / c.from-radix.result ≡ c.loop-left.left / g.row.R ^ 1 =
    rw (pow-one, c.from-radix.ensures) refl in
    record {
      within = omega arith;
      written = rw order at (IsWrittenBack-more two (long g c') next
          (IsWrittenBack-at place c.loop-left.invariant.written) (rw (← c.char_of.ensures) at (block g c')));
      divided = rw turn at (IsDivided-more two c.loop-left.invariant.divided (long g c') next c.tick.ensures);
    }

single : (g : _) (c : After-loop-left g) → digit_count g.row.R c.loop-left.left ≡ 1
single g c = digit_count-one g.row.R c.loop-left.left c.requires.radix.at_least_two (omega arith)

pub returns-clause-place : goal.returns-clause-place
returns-clause-place g c =
    omega (
      arith,
      single g (goal.at.returns-clause-place g c).After-loop-left,
      IsWrittenBack-counts c.requires.radix.at_least_two c.loop-left.invariant.written,
    )

pub returns-clause-digits : goal.returns-clause-digits
returns-clause-digits g c =
    let c' = (goal.at.returns-clause-digits g c).After-loop-left in
    let two = c.requires.radix.at_least_two in
    let counts = IsWrittenBack-counts two c.loop-left.invariant.written in
    let place : c.loop-left.index ≡ c.loop-left.index - 1 + 1 = omega (arith, counts, single g c') in
    IsDigits-block g.row.R c.args.value (1 + (length c.args.buffer.now - c.loop-left.index))
    (c.loop-left.index - 1) _ _ two
    (omega (arith, counts, single g c')) (omega (arith, place))
    (IsWrittenBack-last (IsWrittenBack-at place c.loop-left.invariant.written)
    (rw c.char_of-2.ensures
    (WritesBlock-one g.row.R c.loop-left.left (c.loop-left.index - 1) c.loop-left.buffer (omega arith)
    (omega (arith, place)))))

pub returns-clause-notes : goal.returns-clause-notes
returns-clause-notes g c =
    compact_notes-are (RemovesDigits-end c.requires.radix.at_least_two takes_one c.loop-left.invariant.divided
    (rw pow-one (omega arith)))
