use Rattle.std.proofs.Common.{◌≡◌, ℕ, ◌+◌, ◌*◌, ◌/◌, ◌%◌, ◌^◌, ◌≤◌, [], ◌∷◌, ◌++◌, length, ap, ◌∙◌, lit<, arith}
use Rattle.std.proofs.Common.{zero-add, length-append, append_assoc}
use Rattle.std.proofs.lemmas.List.FromFn.{map-range_with_len_more, length-map-range_with_len}
use Rattle.lexical_write_integer.specs.DecimalTurns.{products}
use Rattle.lexical_write_integer.proofs.Buffers.Prefixes.{Writes-over-all}
use Rattle.lexical_write_integer.proofs.OfDigits.Decimal.Fractions.{rest-more}
use Rattle.lexical_write_integer.proofs.OfDigits.Decimal.PairBlocks.{WritesDigits-pair, digit_count-carried}
use Rattle.lexical_write_integer.proofs.OfDigits.Decimal.PairBlocks.{room_for_carried}
use Rattle.lexical_write_integer.proofs.digits.decimal.decimal_pairs.write_pairs.Goals as goal

-- the note of one further pair
products-more : (fraction i : ℕ) → products fraction (i + 1) ≡ products fraction i
    ++ (fraction * 100 ^ i % 2 ^ 32 * 100) ∷ []
products-more fraction i = map-range_with_len_more (λ j. fraction * 100 ^ j % 2 ^ 32 * 100) 0 i i (zero-add i)

length-products : (fraction pairs : ℕ) → length (products fraction pairs) ≡ pairs
length-products fraction pairs = length-map-range_with_len (λ j. fraction * 100 ^ j % 2 ^ 32 * 100) 0 pairs

pub write_first_pair-count-requires-clause-room : goal.write_first_pair-count-requires-clause-room
write_first_pair-count-requires-clause-room c =
    let room = room_for_carried c.args.fraction 1 c.args.pair_count _ c.requires.some c.requires.room in
    omega (arith, room, digit_count-carried c.args.fraction 0 c.requires.first)

pub write-requires : goal.write-requires
write-requires c =
    let room = room_for_carried c.args.fraction (c.loop.counter + 1) c.args.pair_count _ (omega arith)
    c.requires.room in
    let more = digit_count-carried c.args.fraction c.loop.counter c.requires.first in
    (lit< tt, (c.next2-pair.ensures.below, omega (arith, more, c.loop.invariant.digits.count)))

pub loop-preserved : goal.loop-preserved
loop-preserved c =
    let done = c.loop.invariant in
    let product = c.next2-pair.ensures.product ∙ ap (λ z. z * 100) done.following in
    let pair = c.next2-pair.ensures.pair ∙ ap (λ z. z / 2 ^ 32) product in
    let room = room_for_carried c.args.fraction (c.loop.counter + 1) c.args.pair_count _ (omega arith)
    c.requires.room in
    record {
      following = rw c.next2-pair.ensures.product (rest-more c.args.fraction c.loop.counter _ done.following);
      digits = WritesDigits-pair _ _ c.requires.first (rw c.write_first_pair-count.auto.buffer room)
          pair done.digits c.write.ensures;
      notes = let more = products-more c.args.fraction c.loop.counter in grind (arith, append_assoc);
      count = omega arith;
    }

pub returns : goal.returns
returns c =
    let all : c.loop.counter ≡ c.args.pair_count = omega arith in
    let longer = ap length c.loop.invariant.notes
    ∙ length-append c.args.turns.now (products c.args.fraction c.loop.counter) in
    let digits = rw all at c.loop.invariant.digits in
    let first = c.write_first_pair-count in
    let several : 2 ≤ c.loop.count = omega (arith, c.loop.invariant.count, first.ensures.some, c.requires.some) in
    record {
      digits = record {
        writes = Writes-over-all 2 first.auto.buffer first.ensures.rest several digits.writes;
        count = digits.count;
      };
      notes = rw all at c.loop.invariant.notes;
      turns = omega (arith, length-products c.args.fraction c.loop.counter);
    }
