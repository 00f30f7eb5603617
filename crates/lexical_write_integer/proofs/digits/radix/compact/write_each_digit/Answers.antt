use Rattle.std.proofs.Common.{◌≡◌, ◌-◌, length, take, drop, ap, length-drop, arith}
use Rattle.std.proofs.lemmas.List.{take_all}
use Rattle.lexical_num.specs.BitWidth.{is_64}
use Rattle.lexical_write_integer.proofs.OfDigits.Count.DigitCounts.{digit_count-le_64}
use Rattle.lexical_write_integer.proofs.digits.radix.compact.write_each_digit.Goals as goal

pub write_to_end-index-requires-clause-room : goal.write_to_end-index-requires-clause-room
write_to_end-index-requires-clause-room g c =
    digit_count-le_64 _ _ _ c.requires.radix.at_least_two is_64 (omega (arith, c.ranges.value))

-- the check finds this proof by itself, but with an answer the refusal of a mistake says what is wrong
pub returns-clause-digits : goal.returns-clause-digits
returns-clause-digits g c =
    let index = c.write_to_end-index.result in
    let last = drop index c.write_to_end-index.new.buffer in
    let written = c.write_to_end-index.ensures in
    let long : length last ≡ 64 - index =
    omega (arith, length-drop index c.write_to_end-index.new.buffer, c.write_to_end-index.auto.buffer) in
    let whole : take (64 - index) last ≡ last = take_all _ _ (omega (arith, long)) in
    let copied = c.copy_to_front.ensures in
    record {
      writes = record {
        text = take (64 - index) last;
        is = rw whole written.digits;
        front = copied.front;
        count = copied.count;
      };
      count = omega (arith, copied.count, ap length whole, long, written.place, c.write_to_end-index.auto.buffer);
    }
