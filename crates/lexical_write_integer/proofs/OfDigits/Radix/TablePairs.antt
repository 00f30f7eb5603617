-- Pairs of digits, which are read from a table that begins with the pairs of the radix.
use Rattle.std.proofs.Common.{◌≡◌, ℕ, suc, ◌+◌, ◌-◌, ◌*◌, ◌/◌, ◌%◌, ◌^◌, ◌<◌, ◌≤◌, List, [], ◌∷◌, length, get_or, take}
use Rattle.std.proofs.Common.{drop, map, set, refl, ap, subst}
use Rattle.std.proofs.Common.{length-take, arith}
use Rattle.std.specs.Int.{w16, from_le_bytes}
use Rattle.std.proofs.Math.Nat.{div-add-mod'}
use Rattle.std.proofs.Math.Seq.{drop-cons}
use Rattle.std.proofs.lemmas.List.{get_or-take}
use Rattle.lexical_num.specs.Digit.{digit_char}
use Rattle.lexical_tables.proofs.Pairs.{length-pairs, slice_index-pairs_first, slice_index-pairs_second}
use Rattle.lexical_write_integer.specs.Buffer.{WritesBlock}
use Rattle.lexical_write_integer.specs.Table.{BeginsWithPairs}
use Rattle.lexical_write_integer.proofs.Buffers.Blocks.{WritesBlock-front}
use Rattle.lexical_write_integer.proofs.OfDigits.Powers.{pow-two}

-- a radix that equals another has its table
pub begins_in_arm : {radix r : ℕ} {table : List ℕ} → BeginsWithPairs radix table → radix ≡ r → BeginsWithPairs r table
begins_in_arm {table = table} t is = subst (λ k. BeginsWithPairs k table) is t

-- a table that begins with the pairs is at least as long as they are
pub length-table : (r : ℕ) (table : List ℕ) → BeginsWithPairs r table → 2 * (r * r) ≤ length table
length-table r table t = omega (arith, length-pairs r, ap length t.first, length-take (2 * (r * r)) table)

-- the two characters of a pair
pub pair_first : (r k : ℕ) (table : List ℕ) → BeginsWithPairs r table → k < r * r
    → get_or table (2 * k) 0 ≡ digit_char (k / r)
pair_first r k table t small = grind (arith, get_or-take, slice_index-pairs_first)

-- the second character of pair k is at index 2 * k + 1 of the table
pub pair_second : (r k : ℕ) (table : List ℕ) → BeginsWithPairs r table → k < r * r
    → get_or table (2 * k + 1) 0 ≡ digit_char (k % r)
pair_second r k table t small = grind (arith, get_or-take, slice_index-pairs_second)

-- both characters of a pair, as they are copied from the table
pub characters-pair : (r k : ℕ) (table : List ℕ) → BeginsWithPairs r table → k < r * r
    → take (2 * k + 2 - 2 * k) (drop (2 * k) table) ≡ map digit_char (k / r ∷ k % r ∷ [])
characters-pair r k table t small =
    let long = length-table r table t in
    let count : 2 * k + 2 - 2 * k ≡ 2 = omega arith in
    let next : suc (2 * k) ≡ 2 * k + 1 = omega arith in
    let first = drop-cons table (2 * k) 0 (omega arith) in
    let second = drop-cons table (suc (2 * k)) 0 (omega arith) in
    rw (count, first, second, next, pair_first r k table t small, pair_second r k table t small) refl

-- both characters of a pair, as the low and the high byte of a number
pub joined : (first second n : ℕ) → first < 256 → n ≡ from_le_bytes w16 (first ∷ second ∷ []) → (n % 256 ≡ first)
    × (n / 256 ≡ second)
joined first second n small is = (omega (arith, is, small), omega (arith, is, small))

-- the second is stored at index 1 of a part of the buffer, and then the first at index 0
pub set-pair : (part : List ℕ) (first second : ℕ) → length part ≡ 2
    → set (set part 1 second) 0 first ≡ first ∷ second ∷ []
set-pair [] first second long = absurd (omega arith)
set-pair (x ∷ []) first second long = absurd (omega arith)
set-pair (x ∷ y ∷ []) first second long = refl
set-pair (x ∷ y ∷ (z ∷ part)) first second long = absurd (omega arith)

-- the two pairs of four digits, the last pair first
pub WritesBlock-pairs : (r n square : ℕ) {at : ℕ} {before between after : List ℕ}
    → square ≡ r * r → WritesBlock r 2 (n % square) (at + 2) before between
    → WritesBlock r 2 (n / square) at between after
    → WritesBlock r 4 n at before after
WritesBlock-pairs r n square is last first =
    let whole : n / square * r ^ 2 + n % square ≡ n = rw (pow-two, ← is) (div-add-mod' n square) in
    rw whole at (WritesBlock-front last first)
