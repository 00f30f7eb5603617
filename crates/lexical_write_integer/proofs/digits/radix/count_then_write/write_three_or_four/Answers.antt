use Rattle.std.proofs.Common.{◌≡◌, ℕ, List, ◌+◌, ◌-◌, ◌*◌, ◌/◌, ◌%◌, ◌^◌, ◌<◌, ◌≤◌, length, take, set, sym, subst, lit<}
use Rattle.std.proofs.Common.{arith, length-set, length-take-le}
use Rattle.std.proofs.Math.Nat.{mod-lt, div-add-mod'}
use Rattle.std.proofs.lemmas.Nat.{div_below}
use Rattle.lexical_num.specs.Digit.{digit_char}
use Rattle.lexical_write_integer.specs.Buffer.{WritesBlock}
use Rattle.lexical_write_integer.specs.DigitCount.{digit_count}
use Rattle.lexical_write_integer.specs.LoopTurns.{takes_two, takes_four}
use Rattle.lexical_write_integer.proofs.Buffers.Blocks.{WritesBlock-first, WritesBlock-front, WritesBlock-one}
use Rattle.lexical_write_integer.proofs.Buffers.BlocksAfter.{WritesBlock-digits, WritesDigits-after, WritesDigits-block}
use Rattle.lexical_write_integer.proofs.OfDigits.Count.DigitCounts.{digit_count-split}
use Rattle.lexical_write_integer.proofs.OfDigits.Count.RadixPowers.{power-gt_one, power-small}
use Rattle.lexical_write_integer.proofs.OfDigits.Powers.{pow-one, pow-two, pow-four}
use Rattle.lexical_write_integer.proofs.OfDigits.Radix.TablePairs.{length-table, pair_first, pair_second}
use Rattle.lexical_write_integer.proofs.digits.radix.count_then_write.write_three_or_four.Goals as goal
use Rattle.lexical_write_integer.proofs.digits.radix.count_then_write.write_three_or_four.Goals.{Start}
use Rattle.lexical_write_integer.proofs.digits.radix.count_then_write.write_three_or_four.Goals.{After-count_three_or_four-count}

some : (g : _) (c : Start g) → 0 < g.row.R * g.row.R
some g c = omega (arith, pow-two g.row.R, power-gt_one g.row.R 2 c.args.table.is_radix.at_least_two takes_two)

-- the number of the last pair
last : (g : _) (c : Start g) → c.args.number % (g.row.R * g.row.R) < g.row.R * g.row.R
last g c = mod-lt c.args.number (some g c)

pub overflow_cast-pair : goal.overflow_cast-pair
overflow_cast-pair g c = omega (
  arith,
  c.requires.below,
  power-small g.row.R 4 c.args.table.is_radix.at_most_36 takes_four,
)

-- the last pair, its second digit first
WritesBlock-last : (r n at : ℕ) (list : List ℕ) → 2 ≤ r → n < r * r → at + 2 ≤ length list
    → WritesBlock r 2 n at list (set (set list (at + 1) (digit_char (n % r))) at (digit_char (n / r)))
WritesBlock-last r n at list two small room =
    let second = WritesBlock-one r (n % r) (at + 1) list (mod-lt n (omega arith)) (omega arith) in
    let first = WritesBlock-one r (n / r) at (set list (at + 1) (digit_char (n % r)))
    (div_below n r r (omega arith) small) (rw length-set (omega arith)) in
    let whole : n / r * r ^ 1 + n % r ≡ n = rw pow-one (div-add-mod' n r) in
    rw whole at (WritesBlock-front {i = 1} {j = 1} second first)

-- how many digits the first pair has
first_count : (g : _) (c : Start g) → digit_count g.row.R c.args.number
    ≡ digit_count g.row.R (c.args.number / (g.row.R * g.row.R)) + 2
first_count g c =
    omega (
      arith,
      rw pow-two at (digit_count-split g.row.R 2 c.args.number c.args.table.is_radix.at_least_two
          c.requires.more),
    )

-- the digits have room, so their slice has their length
room : (g : _) (c : After-count_three_or_four-count g) → c.count_three_or_four-count.result ≤ length c.args.buffer.now
room g c = omega (arith, c.count_three_or_four-count.ensures.count, c.requires.room)

slice : (g : _) (c : After-count_three_or_four-count g)
    → length (take c.count_three_or_four-count.result c.args.buffer.now) ≡ c.count_three_or_four-count.result
slice g c = length-take-le _ _ (room g c)

pub write_pair_by_word-requires : goal.write_pair_by_word-requires
write_pair_by_word-requires g c =
    let c' = (goal.at.write_pair_by_word-requires g c).Start in
    let r = g.row.R in
    let below : c.args.number / (r * r) < r * r =
    div_below c.args.number (r * r) (r * r) (some g c') (rw pow-four at c.requires.below) in
    let counted : c.count_three_or_four-count.result - 2 ≡ digit_count r (c.args.number / (r * r)) =
    omega (arith, first_count g c', c.count_three_or_four-count.ensures.count) in
    let within = slice g (goal.at.write_pair_by_word-requires g c).After-count_three_or_four-count in
    rw (c.remove_two.ensures.left, within) (lit< tt, (below, (counted, omega arith)))

-- the check finds this proof by itself, but with an answer the refusal of a mistake says what is wrong
pub overflow_mul-pair-2 : goal.overflow_mul-pair-2
overflow_mul-pair-2 g c =
    let small = power-small g.row.R 2 c.args.table.is_radix.at_most_36 takes_two in
    omega (arith, last g (goal.at.overflow_mul-pair-2 g c).Start, pow-two g.row.R, small)

pub bounds-table-pair : goal.bounds-table-pair
bounds-table-pair g c = omega (
  arith,
  last g (goal.at.bounds-table-pair g c).Start,
  length-table g.row.R c.args.table.pairs.now c.args.table.begins,
)

pub bounds-table-pair-2 : goal.bounds-table-pair-2
bounds-table-pair-2 g c = omega (
  arith,
  last g (goal.at.bounds-table-pair-2 g c).Start,
  length-table g.row.R c.args.table.pairs.now c.args.table.begins,
)

pub bounds-written-count : goal.bounds-written-count
bounds-written-count g c =
    let sliced = slice g (goal.at.bounds-written-count g c).After-count_three_or_four-count in
    omega (arith, c.write_pair_by_word.auto.buffer, sliced, c.count_three_or_four-count.ensures.three)

pub bounds-written-count-2 : goal.bounds-written-count-2
bounds-written-count-2 g c =
    let sliced = slice g (goal.at.bounds-written-count-2 g c).After-count_three_or_four-count in
    rw length-set (omega (arith, c.write_pair_by_word.auto.buffer, sliced, c.count_three_or_four-count.ensures.three))

pub returns-clause-digits : goal.returns-clause-digits
returns-clause-digits g c =
    let c' = (goal.at.returns-clause-digits g c).Start in
    let counted = (goal.at.returns-clause-digits g c).After-count_three_or_four-count in
    let r = g.row.R in
    let n = c.args.number in
    let two = c.args.table.is_radix.at_least_two in
    let pairs = c.args.table.pairs.now in
    let count = c.count_three_or_four-count.result in
    let is = c.count_three_or_four-count.ensures.count in
    let three = c.count_three_or_four-count.ensures.three in
    let fits = room g counted in
    let within = slice g counted in
    let first = rw c.remove_two.ensures.left at c.write_pair_by_word.ensures in
    let next : count - 1 ≡ count - 2 + 1 = omega (arith, three) in
    let all : count - 2 + 2 ≡ count = omega (arith, three) in
    let between = c.write_pair_by_word.new.buffer in
    let lo = n % (r * r) in
    let after = set (set between (count - 2 + 1) (digit_char (lo % r))) (count - 2) (digit_char (lo / r)) in
    let block = WritesBlock-last r lo (count - 2) between two (last g c')
    (omega (arith, c.write_pair_by_word.auto.buffer, within, three)) in
    let digits = WritesDigits-after {r = r} {count = 2} {at = count - 2} n {before = take count c.args.buffer.now}
    {between = between} {after = after} two c.requires.more (omega (arith, within, is)) (rw pow-two first)
    (subst (λ s. WritesBlock r 2 (n % s) (count - 2) between after) (sym (pow-two r)) block) in
    rw (
      pair_first r (n % (r * r)) pairs c.args.table.begins (last g c'),
      pair_second r (n % (r * r)) pairs c.args.table.begins (last g c'),
      next,
    )
    (WritesDigits-block two (sym is) fits (WritesBlock-first fits (WritesBlock-digits (rw all at digits))))
