-- How the pairs of a fraction make up the digits that it carries.
use Rattle.std.proofs.Common.{◌≡◌, ℕ, ◌+◌, ◌*◌, ◌/◌, ◌%◌, ◌^◌, ◌≤◌, List, length, arith}
use Rattle.lexical_write_integer.specs.Buffer.{WritesBlock, WritesDigits}
use Rattle.lexical_write_integer.specs.Carries.{carried}
use Rattle.lexical_write_integer.specs.DigitCount.{digit_count}
use Rattle.lexical_write_integer.proofs.Buffers.BlocksAfter.{WritesDigits-after}
use Rattle.lexical_write_integer.proofs.OfDigits.Count.DigitCounts.{digit_count-monotone, digit_count-split}
use Rattle.lexical_write_integer.proofs.OfDigits.Decimal.Fractions.{carried-more, carried-monotone}
pub use Rattle.lexical_write_integer.proofs.OfDigits.Count.DigitCounts.{widths}

-- fewer pairs have no more digits
pub room_for_carried : (y i k room : ℕ) → i ≤ k → digit_count 10 (carried y k) ≤ room
    → digit_count 10 (carried y i) ≤ room
room_for_carried y i k room fewer enough = grind (arith, digit_count-monotone, carried-monotone)

-- what one further pair adds, to a fraction whose first pair is not 0
carried-long : (y i : ℕ) → 1 ≤ y / 2 ^ 32 → 10 ^ 2 ≤ carried y (i + 1)
carried-long y i first = omega (arith, carried-more y i, carried-monotone y 0 i (omega arith))

-- the number that a fraction carries in i + 1 pairs after the point, divided by 100, is what it carries in i pairs
carried-front : (y i : ℕ) → carried y (i + 1) / 10 ^ 2 ≡ carried y i
carried-front y i = omega (arith, carried-more y i)

-- the last pair of the number that a fraction carries in i + 1 pairs is the whole part of 100 times what is after the
-- point in 100 ^ i times the fraction
carried-last : (y i : ℕ) → carried y (i + 1) % 10 ^ 2 ≡ y * 100 ^ i % 2 ^ 32 * 100 / 2 ^ 32
carried-last y i = omega (arith, carried-more y i)

-- one further pair makes the carried number two digits longer, if the first pair is not 0
pub digit_count-carried : (y i : ℕ) → 1 ≤ y / 2 ^ 32
    → digit_count 10 (carried y (i + 1)) ≡ digit_count 10 (carried y i) + 2
digit_count-carried y i first =
    rw carried-front at (digit_count-split 10 2 (carried y (i + 1)) (omega arith) (carried-long y i first))

-- the next pair, after the pairs that are written
pub WritesDigits-pair : (y i : ℕ) {pair count : ℕ} {before between after : List ℕ}
    → 1 ≤ y / 2 ^ 32 → digit_count 10 (carried y (i + 1)) ≤ length before → pair ≡ y * 100 ^ i % 2 ^ 32 * 100 / 2 ^ 32
    → WritesDigits 10 (carried y i) before between count → WritesBlock 10 2 pair count between after
    → WritesDigits 10 (carried y (i + 1)) before after (count + 2)
WritesDigits-pair y i {between = between} first room is front last =
    let more = carried-long y i first in
    WritesDigits-after (carried y (i + 1)) {between = between} (omega arith) more room (rw (carried-front y i) front)
    (rw (carried-last y i, ← is) last)
