use Rattle.std.proofs.Common.{◌/◌, ◌^◌, ◌≤◌, ◌++◌, length, ap, ◌∙◌, arith, append_assoc, length-append}
use Rattle.std.proofs.lemmas.Bool.{le-ltb}
use Rattle.lexical_write_integer.specs.DecimalTurns.{decimal_notes_64, pairs_from_back}
use Rattle.lexical_write_integer.proofs.Buffers.BlocksAfter.{WritesDigits-after}
use Rattle.lexical_write_integer.proofs.OfDigits.Count.DigitCounts.{digit_count-pos, digit_count-split}
use Rattle.lexical_write_integer.proofs.digits.decimal.jeaiii.write_more_than_ten.Goals as goal

pub write_32-front-requires : goal.write_32-front-requires
write_32-front-requires c = omega (arith, digit_count-split 10 10 c.args.n (omega arith) (omega arith))

pub write_last_ten-requires : goal.write_last_ten-requires
write_last_ten-requires c = omega (arith, digit_count-split 10 10 c.args.n (omega arith) (omega arith))

pub returns : goal.returns
unfolding decimal_notes_64
returns c =
    let n = c.args.n in
    let long : 10 ^ 10 ≤ n = c.requires.long in
    let front = c.write_32-front.ensures in
    let five_more = ap length c.write_last_ten.ensures.notes ∙ length-append c.write_32-front.new.turns _ in
    let following = c.write_last_ten.ensures.notes ∙ ap (λ notes. notes ++ pairs_from_back n 5) front.notes in
    record {
      digits = WritesDigits-after n (omega arith) long c.requires.room front.digits c.write_last_ten.ensures.block;
      notes = rw (le-ltb n (10 ^ 9) (omega arith), le-ltb n (10 ^ 10) long) (rw append_assoc at following);
      turns = omega (arith, five_more, front.turns, front.digits.count, digit_count-pos 10 (n / 10 ^ 10));
    }
