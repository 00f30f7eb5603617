use Rattle.std.proofs.Common.{◌≡◌, ℕ, ◌+◌, ◌*◌, ◌<◌, ◌≤◌, List, get_or, arith}
use Rattle.std.proofs.Math.Nat.{div_self, mod_self, mul-le-mul_right}
use Rattle.std.proofs.lemmas.Bool.Decides.{nat_tests}
use Rattle.lexical_num.specs.Format.{IsRadix}
use Rattle.lexical_write_integer.specs.Table.{BeginsWithPairs}
use Rattle.lexical_write_integer.proofs.OfDigits.Radix.TablePairs.{length-table, pair_first, pair_second}
use Rattle.lexical_write_integer.proofs.digits.radix.algorithm.begins_with_pairs.Goals as goal
use Rattle.lexical_write_integer.proofs.digits.radix.algorithm.begins_with_pairs.Goals.{then-table-pair}
use Rattle.lexical_write_integer.proofs.digits.radix.algorithm.begins_with_pairs.Goals.{else-table-pair}

below_square : (r : ℕ) → 2 ≤ r → r < r * r
below_square r two = omega (arith, mul-le-mul_right r two)

one : (r : ℕ) (table : List ℕ) → IsRadix r → BeginsWithPairs r table → get_or table (2 * r) 0 ≡ 49
one r table radix begins = rw (div_self {n = r} (omega (arith, radix.at_least_two))) at
    (pair_first r r table begins (below_square r radix.at_least_two))

zero : (r : ℕ) (table : List ℕ) → IsRadix r → BeginsWithPairs r table → get_or table (2 * r + 1) 0 ≡ 48
zero r table radix begins = rw (mod_self r) at (pair_second r r table begins (below_square r radix.at_least_two))

pub returns-then-table-pair-eq49 : goal.returns-then-table-pair-eq49
returns-then-table-pair-eq49 c = let is = zero c.args.radix c.args.table.now c.requires.radix c.requires.table in
    grind (arith, nat_tests, is)

pub returns-else-table-pair-eq49 : goal.returns-else-table-pair-eq49
returns-else-table-pair-eq49 c =
    let is = one c.args.radix c.args.table.now c.requires.radix c.requires.table in
    grind (arith, length-table)
