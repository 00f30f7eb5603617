-- The index of a number's pair in a table, for callers of `get_table`.
use Rattle.std.proofs.Common.{◌≡◌, ℕ, zero, suc, ◌+◌, ◌*◌, ◌/◌, ◌%◌, ◌<◌, length, slice_index, arith, refl}
use Rattle.std.specs.List.{flat_map, range_with_len}
use Rattle.lexical_num.specs.Digit.{digit_char}
use Rattle.lexical_tables.specs.Pairs.{pair, pairs}

-- the pairs of digits of `count` numbers in a row, from any first one on, are 2 * count characters
length-pairs_from : (radix first count : ℕ) → length (flat_map (pair radix) (range_with_len first count)) ≡ 2 * count
length-pairs_from radix first zero = refl
length-pairs_from radix first (suc count) = omega (arith, length-pairs_from radix (first + 1) count)

-- the two digits of a number follow those of the numbers before it
digits_from : (radix first count i number : ℕ) → i < count → first + i ≡ number →
    (slice_index (flat_map (pair radix) (range_with_len first count)) (2 * i) ≡ digit_char (number / radix))
    × (slice_index (flat_map (pair radix) (range_with_len first count)) (2 * i + 1) ≡ digit_char (number % radix))
digits_from radix first zero i number within e = absurd (omega arith)
digits_from radix first (suc count) zero number within e = let here : first ≡ number = omega arith in
    rw here (refl, refl)
digits_from radix first (suc count) (suc i) number within e =
    let even : 2 * suc i ≡ suc (suc (2 * i)) = omega arith in
    let odd : 2 * suc i + 1 ≡ suc (suc (2 * i + 1)) = omega arith in
    rw (odd, even) (digits_from radix (first + 1) count i number (omega arith) (omega arith))

-- the table has two characters for each number below the square of the radix
pub length-pairs : (radix : ℕ) → length (pairs radix) ≡ 2 * (radix * radix)
unfolding pairs
length-pairs radix = length-pairs_from radix 0 (radix * radix)

-- the character of the first digit of i is at index 2 * i
pub slice_index-pairs_first : (radix i : ℕ) → i < radix * radix
    → slice_index (pairs radix) (2 * i) ≡ digit_char (i / radix)
unfolding pairs
slice_index-pairs_first radix i within = (digits_from radix 0 (radix * radix) i i within (omega arith)).0

-- the character of the second digit of i is at index 2 * i + 1
pub slice_index-pairs_second : (radix i : ℕ) → i < radix * radix
    → slice_index (pairs radix) (2 * i + 1) ≡ digit_char (i % radix)
unfolding pairs
slice_index-pairs_second radix i within = (digits_from radix 0 (radix * radix) i i within (omega arith)).1

-- the length of a table and its entries
pub ruleset reads = (length-pairs, slice_index-pairs_first, slice_index-pairs_second)
