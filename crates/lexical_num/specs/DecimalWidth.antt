-- The largest number of decimal digits of the numbers of a type.
use Rattle.std.specs.Prelude.{ℕ, ◌-◌, ◌^◌, ◌<◌, ◌≤◌, ℤ, unsigned_abs, ◌≤ℤ◌}
use Rattle.std.proofs.Common.{arith}
use Rattle.std.proofs.lemmas.Int.{ints}

-- no number from `least` to `greatest` has more than `width` decimal digits, and `greatest` has `width`
pub record IsDecimalWidth (least greatest : ℤ) (width : ℕ) : Type 0 where
  pub some : 1 ≤ width
  pub enough : (n : ℤ) → least ≤ℤ n → n ≤ℤ greatest → unsigned_abs n < 10 ^ width
  pub needed : 10 ^ (width - 1) ≤ unsigned_abs greatest

-- ghost members are proved by this: it is enough that neither end has more digits, and that `greatest` has `width`
pub is_decimal_width : {least greatest : ℤ} {width : ℕ} → 1 ≤ width → unsigned_abs least < 10 ^ width
    → unsigned_abs greatest < 10 ^ width → 10 ^ (width - 1) ≤ unsigned_abs greatest
    → IsDecimalWidth least greatest width
is_decimal_width some low high full = record {
  some = some;
  enough = λ n above below. omega (arith, ints, low, high, above, below);
  needed = full;
}
