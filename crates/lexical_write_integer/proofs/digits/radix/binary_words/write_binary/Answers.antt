use Rattle.std.proofs.Common.{◌≡◌, ℕ, ◌+◌, ◌-◌, ◌*◌, ◌/◌, ◌%◌, ◌<◌, ◌≤◌, ◌^◌, length, take, refl, sym, subst, ◌∙◌}
use Rattle.std.proofs.Common.{arith}
use Rattle.std.proofs.Math.Nat.{mod-eq_of_lt}
use Rattle.lexical_write_integer.specs.Buffer.{WritesBlock}
use Rattle.lexical_write_integer.specs.DigitCount.{digit_count}
use Rattle.lexical_write_integer.proofs.Buffers.Blocks.{IsWrittenBack-start, IsWrittenBack-at, IsWrittenBack-left}
use Rattle.lexical_write_integer.proofs.Buffers.Blocks.{IsWrittenBack-more, IsWrittenBack-last, WritesBlock-first}
use Rattle.lexical_write_integer.proofs.Buffers.BlocksAfter.{WritesDigits-block}
use Rattle.lexical_write_integer.proofs.OfDigits.Count.DigitCounts.{digit_count-fits, digit_count-more}
use Rattle.lexical_write_integer.proofs.OfDigits.Radix.EightBits.{WritesBlock-overlap, shifted-lt}
use Rattle.lexical_write_integer.proofs.OfDigits.Radix.Loops.Notes.{none_noted, table_notes-are}
use Rattle.lexical_write_integer.proofs.OfDigits.Radix.Loops.ShortNumbers.{fits-within, longer-than}
use Rattle.lexical_write_integer.proofs.digits.radix.binary_words.write_binary.Goals as goal
use Rattle.lexical_write_integer.proofs.digits.radix.binary_words.write_binary.Goals.{In-loop-at, After-loop-at}

pub loop-at-init : goal.loop-at-init
loop-at-init c =
    let n = c.args.value in
    let count = c.count_of_nonzero-count.result in
    let none : count - count ≡ 0 = omega arith in
    record {
      noted = refl;
      written = rw none IsWrittenBack-start;
      more = omega (arith, c.count_of_nonzero-count.ensures.count, digit_count-more 2 8 n (omega arith) c.requires.long);
      within = omega arith;
      room = refl;
    }

-- ---- an iteration

-- more than eight digits are left, in each iteration and after the last
long : (c : In-loop-at) → 2 ^ 8 ≤ c.loop-at.left
long c =
    let counts = IsWrittenBack-left (omega arith) c.count_of_nonzero-count.ensures.count c.loop-at.invariant.within
    c.loop-at.invariant.written in
    longer-than 2 c.loop-at.left 8 (omega arith) (omega (arith, counts, c.loop-at.invariant.more))

pub remove_eight-left-requires : goal.remove_eight-left-requires
remove_eight-left-requires c = omega (arith, long (goal.at.remove_eight-left-requires c).In-loop-at)

pub loop-at-preserved : goal.loop-at-preserved
loop-at-preserved c =
    let left = c.loop-at.left in
    let count = c.count_of_nonzero-count.result in
    let order : 8 + (count - c.loop-at.at) ≡ count - (c.loop-at.at - 8) =
    omega (arith, c.loop-at-test.true, c.loop-at.invariant.within) in
    let place : c.loop-at.at ≡ c.loop-at.at - 8 + 8 = omega (arith, c.loop-at-test.true) in
    let written = IsWrittenBack-at place c.loop-at.invariant.written in
    let long_left = long (goal.at.loop-at-preserved c).In-loop-at in
    record {
      noted = c.remove_eight-left.ensures.notes ∙ c.loop-at.invariant.noted;
      written = rw order at
          (IsWrittenBack-more {step = 8} (omega arith) long_left c.remove_eight-left.ensures.left written
          c.write_eight_bits.ensures);
      more = omega (arith, c.loop-at-test.true);
      within = omega (arith, c.loop-at.invariant.within);
      room = c.write_eight_bits.auto.buffer ∙ c.loop-at.invariant.room;
    }

-- ---- the remaining digits, more than eight and at most sixteen

count_left : (c : After-loop-at) → digit_count 2 c.loop-at.left ≡ c.loop-at.at
count_left c =
    IsWrittenBack-left (omega arith) c.count_of_nonzero-count.ensures.count c.loop-at.invariant.within
    c.loop-at.invariant.written

long_after : (c : After-loop-at) → 2 ^ 8 ≤ c.loop-at.left
long_after c = longer-than 2 c.loop-at.left 8 (omega arith) (omega (arith, count_left c, c.loop-at.invariant.more))

pub remove_eight-rest-requires : goal.remove_eight-rest-requires
remove_eight-rest-requires c = omega (arith, long_after (goal.at.remove_eight-rest-requires c).After-loop-at)

rest_short : (left end rest : ℕ) → rest ≡ left / 2 ^ 8 → digit_count 2 left ≡ end → end ≤ 16 → rest < 256
rest_short left end rest is counts few =
    omega (arith, is, fits-within 2 left 16 (omega arith) (omega (arith, counts, few)))

pub note_up_to_eight-requires : goal.note_up_to_eight-requires
note_up_to_eight-requires c = grind (arith, rest_short, count_left)

-- with zeros after them
first_short : (c : After-loop-at) → c.loop-at.left / 2 ^ 8 * 2 ^ (16 - c.loop-at.at) < 2 ^ 8
first_short c =
    shifted-lt c.loop-at.left c.loop-at.at 8 8 (omega (arith, c.loop-at.invariant.more))
    (omega (arith, c.loop-at-test.false))
    (rw (← count_left c) (digit_count-fits 2 c.loop-at.left (omega arith)))

pub write_eight_bits-requires-2-clause-below : goal.write_eight_bits-requires-2-clause-below
write_eight_bits-requires-2-clause-below c = grind (arith, first_short)

pub returns : goal.returns
returns c =
    let at = goal.at.returns c in
    let left = c.loop-at.left in
    let end = c.loop-at.at in
    let count = c.count_of_nonzero-count.result in
    let is = c.count_of_nonzero-count.ensures.count in
    let same : c.remove_eight-rest.result * 2 ^ (16 - end) % 2 ^ 64 ≡ left / 2 ^ 8 * 2 ^ (16 - end) =
    rw c.remove_eight-rest.ensures.left (mod-eq_of_lt (omega (arith, first_short at.After-loop-at))) in
    let first = subst (λ m. WritesBlock 2 8 m 0 (take end c.loop-at.buffer) c.write_eight_bits-2.new.buffer)
    same c.write_eight_bits-2.ensures in
    let more : 8 ≤ end = omega (arith, c.loop-at.invariant.more) in
    let fits : end ≤ length c.loop-at.buffer =
    omega (arith, is, c.requires.room, c.loop-at.invariant.within, c.loop-at.invariant.room) in
    let block =
    WritesBlock-first fits (WritesBlock-overlap left end 8 8 more more (omega (arith, c.loop-at-test.false))
    first c.write_eight_bits-3.ensures) in
    let place : end ≡ 0 + end = omega arith in
    let whole : end + (count - end) ≡ count = omega (arith, c.loop-at.invariant.within) in
    let old = c.args.turns.now in
    let noted = c.note_up_to_eight.ensures ∙ c.remove_eight-rest.ensures.notes ∙ c.loop-at.invariant.noted in
    record {
      digits = WritesDigits-block {r = 2} (omega arith) (sym is) (omega (arith, is, c.requires.room))
          (rw whole at (IsWrittenBack-last (IsWrittenBack-at place c.loop-at.invariant.written) block));
      notes = table_notes-are 2 c.args.value old old c.note_up_to_eight.new.turns
          (none_noted 2 c.args.value old refl) noted;
    }
