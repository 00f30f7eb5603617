-- The powers of a radix by which the loops divide: which of them fit in which type.
use Rattle.std.proofs.Common.{ℕ, ◌^◌, ◌<◌, ◌≤◌, arith}
use Rattle.std.proofs.Math.Nat.{pow-zero, pow-le-pow_left}
use Rattle.lexical_write_integer.specs.LoopTurns.{IsStep, takes_one, takes_two, takes_four}
use Rattle.lexical_write_integer.proofs.OfDigits.Powers.{pow-lt_more}

-- the steps of the loops
pub ruleset steps = (takes_one, takes_two, takes_four)

-- ---- the powers themselves

-- an iteration removes at least one digit
pub step-pos : (step : ℕ) → IsStep step → 0 < step
step-pos step is = grind arith

-- each of them fits in 32 bits
pub power-small : (r step : ℕ) → r ≤ 36 → IsStep step → r ^ step < 4294967296
power-small r step few stepped = grind (arith, pow-le-pow_left)

-- each power by which a count goes on is more than 1
pub power-gt_one : (r step : ℕ) → 2 ≤ r → IsStep step → 1 < r ^ step
power-gt_one r step two stepped = omega (arith, pow-lt_more r 0 step two (step-pos step stepped), pow-zero r)
