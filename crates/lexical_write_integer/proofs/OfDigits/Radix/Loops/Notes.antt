-- The quotients that the loops note, and how many of them there are.
use Rattle.std.proofs.lemmas.Grind.{common_steps}
use Rattle.std.proofs.Common.{◌≡◌, ◌≢◌, ℕ, ◌+◌, ◌*◌, ◌/◌, ◌%◌, ◌^◌, ◌<◌, ◌≤◌, true, false, cond, ltb, eqb, List, []}
use Rattle.std.proofs.Common.{◌∷◌, ◌++◌, length, refl, sym, ap, ◌∙◌, inl}
use Rattle.std.proofs.Common.{inr, append_assoc, length-append, arith}
use Rattle.std.proofs.Math.Nat.{pow-le-pow_left, pow-le-pow_right, div-one}
use Rattle.std.proofs.lemmas.Nat.{div_below, pow-add}
use Rattle.std.proofs.lemmas.List.{append-nil}
use Rattle.std.proofs.lemmas.Bool.{cond_both, ltb-true, ltb-false, eqb-true, eqb-false, cases_eq}
use Rattle.lexical_num.specs.BitWidth.{IsBitWidth}
use Rattle.lexical_write_integer.specs.DigitCount.{digit_count}
use Rattle.lexical_write_integer.specs.LoopTurns.{RemovesDigits, digits_after_first, quotients, loop_notes, slow_notes}
use Rattle.lexical_write_integer.specs.LoopTurns.{count_notes, table_notes}
use Rattle.lexical_write_integer.specs.LoopTurns.{compact_notes, has_fast_count, loop_turns, slow_turns, count_turns}
use Rattle.lexical_write_integer.specs.LoopTurns.{table_turns, compact_turns}
use Rattle.lexical_write_integer.specs.LoopTurns.{takes_two}
use Rattle.lexical_write_integer.proofs.OfDigits.Count.DigitCounts.{digit_count-pos, digit_count-le, digit_count-one}
use Rattle.lexical_write_integer.proofs.OfDigits.Count.DigitCounts.{digit_count-two, digit_count-split}
use Rattle.lexical_write_integer.proofs.OfDigits.Powers.{div-pow_more, pow-one}
use Rattle.lexical_write_integer.proofs.OfDigits.Count.RadixPowers.{power-gt_one}
use Rattle.lexical_write_integer.proofs.OfDigits.Radix.Loops.Divisions.{quotients-none, quotients-more, quotients-first}
use Rattle.lexical_write_integer.proofs.OfDigits.Radix.Loops.Divisions.{length-quotients, RemovesDigits-counts}

-- a loop of one iteration that removes `step` digits has a single quotient: the number divided by r ^ step
quotients-one : (r n step : ℕ) → quotients r n step 1 ≡ n / r ^ step ∷ []
quotients-one r n step =
    let once : step * (0 + 1) ≡ step = omega arith in
    quotients-more r n step 0 ∙ ap (λ ys. ys ++ n / r ^ (step * (0 + 1)) ∷ []) (quotients-none r n step)
    ∙ ap (λ k. n / r ^ k ∷ []) once

-- the quotient by r ^ i, divided by r ^ j, is the quotient by r ^ (i + j)
left_left : (r n i j : ℕ) → n / r ^ i / r ^ j ≡ n / r ^ (i + j)
left_left r n i j = let order : j + i ≡ i + j = omega arith in div-pow_more r n j i ∙ ap (λ k. n / r ^ k) order

-- ---- the loop that divides by the square of the radix, after the one that divides by its fourth power

-- the loop that divides by the square has at most one iteration
two_notes : {r n four left : ℕ} {a b : List ℕ}
    → 2 ≤ r → RemovesDigits r n 4 four left a b
    → quotients r left 2 (digits_after_first r left / 2)
    ≡ cond (ltb (digits_after_first r n % 4) 2) [] (n / r ^ (4 * (digits_after_first r n / 4) + 2) ∷ [])
two_notes {r} {n} {four} {left} two t =
    let following : digits_after_first r left ≡ digits_after_first r n % 4 =
    omega (arith, t.count, RemovesDigits-counts two t, digit_count-pos r left) in
    cond_both (ltb (digits_after_first r n % 4) 2) [] (n / r ^ (4 * (digits_after_first r n / 4) + 2) ∷ [])
    (λ ys. quotients r left 2 (digits_after_first r left / 2) ≡ ys)
    (λ few.
    let none : digits_after_first r left / 2 ≡ 0 = omega (arith, ltb-true (digits_after_first r n % 4) 2 few) in
    rw none (quotients-none r left 2))
    (λ more.
    let one : digits_after_first r left / 2 ≡ 1 = omega (arith, ltb-false (digits_after_first r n % 4) 2 more) in
    rw (one, t.rest, t.count)
    (quotients-one r (n / r ^ (4 * (digits_after_first r n / 4))) 2
    ∙ ap (λ k. k ∷ []) (left_left r n (4 * (digits_after_first r n / 4)) 2)))

-- what both loops note, one after the other
pub loop_notes-are : {r n four left_four by_two left_two : ℕ} {a b c : List ℕ}
    → 2 ≤ r → RemovesDigits r n 4 four left_four a b → RemovesDigits r left_four 2 by_two left_two b c
    → c ≡ a ++ loop_notes r n
unfolding loop_notes
loop_notes-are {r} {n} {a = a} two t u =
    rw (u.notes, t.notes, two_notes two t) (append_assoc a (quotients r n 4 (digits_after_first r n / 4)) _)

-- ---- the slow count, whose last loop removes single digits

-- the digits that the three loops remove, and the one that is left, are all digits of the number
pub slow_count-is : {r n four left_four by_two left_two by_one left_one : ℕ} {a b c d : List ℕ}
    → 2 ≤ r → RemovesDigits r n 4 four left_four a b → RemovesDigits r left_four 2 by_two left_two b c
    → RemovesDigits r left_two 1 by_one left_one c d → 1 + four + by_two + by_one ≡ digit_count r n
slow_count-is {r} {left_two = left} two t u v =
    omega (arith, v.count, RemovesDigits-counts two t, RemovesDigits-counts two u, digit_count-pos r left)

-- that loop has one iteration if the number of digits is even, and otherwise none
last_notes : {r n four left_four by_two left_two : ℕ} {a b c : List ℕ}
    → 2 ≤ r → RemovesDigits r n 4 four left_four a b → RemovesDigits r left_four 2 by_two left_two b c
    → quotients r left_two 1 (digits_after_first r left_two / 1)
    ≡ cond (eqb (digit_count r n % 2) 0) (n / r ^ digits_after_first r n ∷ []) []
last_notes {r} {n} {four} {left_four} {by_two} {left_two} two t u =
    let counts : digit_count r left_two + (four + by_two) ≡ digit_count r n =
    omega (arith, RemovesDigits-counts two t, RemovesDigits-counts two u) in
    let some = digit_count-pos r left_two in
    let even_taken : (four + by_two) % 2 ≡ 0 = omega (arith, t.count, u.count) in
    let few : digit_count r left_two ≤ 2 = omega (arith, u.count, RemovesDigits-counts two u) in
    let left_is : left_two ≡ n / r ^ (four + by_two) =
    u.rest ∙ ap (λ k. k / r ^ by_two) t.rest ∙ left_left r n four by_two in
    cond_both (eqb (digit_count r n % 2) 0) (n / r ^ digits_after_first r n ∷ []) []
    (λ ys. quotients r left_two 1 (digits_after_first r left_two / 1) ≡ ys)
    (λ even.
    let one : digits_after_first r left_two / 1 ≡ 1 = omega (arith, eqb-true (digit_count r n % 2) 0 even) in
    let all : four + by_two + 1 ≡ digits_after_first r n = omega (arith, eqb-true (digit_count r n % 2) 0 even) in
    rw one (quotients-one r left_two 1 ∙ ap (λ k. k / r ^ 1 ∷ []) left_is
    ∙ ap (λ k. k ∷ []) (left_left r n (four + by_two) 1) ∙ ap (λ e. n / r ^ e ∷ []) all))
    (λ odd.
    let none : digits_after_first r left_two / 1 ≡ 0 = omega (arith, eqb-false (digit_count r n % 2) 0 odd) in
    rw none (quotients-none r left_two 1))

-- what the three loops note, one after the other
pub slow_notes-are : {r n four left_four by_two left_two by_one left_one : ℕ} {a b c d : List ℕ}
    → 2 ≤ r → RemovesDigits r n 4 four left_four a b → RemovesDigits r left_four 2 by_two left_two b c
    → RemovesDigits r left_two 1 by_one left_one c d → d ≡ a ++ slow_notes r n
unfolding slow_notes
slow_notes-are {r} {n} {a = a} two t u v =
    rw (v.notes, loop_notes-are two t u, last_notes two t u) (append_assoc a (loop_notes r n) _)

-- ---- a number of up to four digits

-- with one or two digits, the loops that remove four and two digits note nothing
pub loop_notes-short : (r n : ℕ) → 2 ≤ r → n < r ^ 2 → loop_notes r n ≡ []
unfolding loop_notes quotients
loop_notes-short r n two short = grind (arith, digit_count-le, cases_eq, digit_count-pos)

-- with one or two digits, the notes do not change if what these loops note is appended
pub loop_notes-none : (r n : ℕ) (notes : List ℕ) → 2 ≤ r → n < r ^ 2 → notes ≡ notes ++ loop_notes r n
loop_notes-none r n notes two short = rw (loop_notes-short r n two short) (sym (append-nil notes))

-- with three or four digits, the loops that remove four and two digits note one quotient
pub loop_notes-pair : (r n : ℕ) → 2 ≤ r → r ^ 2 ≤ n → n < r ^ 4 → loop_notes r n ≡ n / r ^ 2 ∷ []
unfolding loop_notes quotients
loop_notes-pair r n two long short =
    let split = digit_count-split r 2 n two long in
    grind (arith, digit_count-le, digit_count-pos)

-- the slow count notes nothing of a single digit
pub slow_notes-one : (r n : ℕ) → 2 ≤ r → n < r → slow_notes r n ≡ []
unfolding slow_notes
slow_notes-one r n two short =
    let short_too : n < r ^ 2 =
    omega (arith, pow-one r, pow-le-pow_right {n = r} (omega arith) {i = 1} {j = 2} (omega arith)) in
    rw (loop_notes-short r n two short_too, digit_count-one r n two short) refl

-- the slow count notes the first of two digits
pub slow_notes-two : (r n : ℕ) → 2 ≤ r → r ≤ n → n < r ^ 2 → slow_notes r n ≡ n / r ∷ []
unfolding slow_notes
slow_notes-two r n two long short =
    rw (loop_notes-short r n two short, digit_count-two r n two long short, pow-one) refl

-- of three or four digits it notes the quotient by the square, and then what it notes of that
pub slow_notes-pair : (r n : ℕ) → 2 ≤ r → r ^ 2 ≤ n → n < r ^ 4 → slow_notes r n ≡ n / r ^ 2 ∷ slow_notes r (n / r ^ 2)
unfolding slow_notes
slow_notes-pair r n two long short =
    let below : n / r ^ 2 < r ^ 2 = div_below n (r ^ 2) (r ^ 2) (omega (arith, power-gt_one r 2 two takes_two))
    (rw (pow-add r 2 2) at short) in
    let few = digit_count-le r (n / r ^ 2) 2 (omega arith) below in
    grind (arith, digit_count-split, loop_notes-pair, loop_notes-short, digit_count-pos, div-pow_more)

-- ---- a number of more than four digits: its first quotient, and then what is noted for that quotient

-- a number that is at least r ^ 4 has four more digits after its first one than its quotient by r ^ 4 has
after_four : (r n : ℕ) → 2 ≤ r → r ^ 4 ≤ n → digits_after_first r n ≡ digits_after_first r (n / r ^ 4) + 4
after_four r n two long = omega (arith, digit_count-split r 4 n two long, digit_count-pos r (n / r ^ 4))

-- the loops that remove four and two digits note the first quotient, and then what they note of it
pub loop_notes-first : (r n : ℕ) → 2 ≤ r → r ^ 4 ≤ n → loop_notes r n ≡ n / r ^ 4 ∷ loop_notes r (n / r ^ 4)
unfolding loop_notes
loop_notes-first r n two long =
    let b = digits_after_first r (n / r ^ 4) in
    let turns : (b + 4) / 4 ≡ b / 4 + 1 = omega arith in
    let more : (b + 4) % 4 ≡ b % 4 = omega arith in
    let order : 4 * (b / 4) + 2 + 4 ≡ 4 * (b / 4 + 1) + 2 = omega arith in
    rw (after_four r n two long, turns, more, quotients-first, ← order, ← div-pow_more) refl

-- the slow count notes the first quotient, and then what it notes of that
pub slow_notes-first : (r n : ℕ) → 2 ≤ r → r ^ 4 ≤ n → slow_notes r n ≡ n / r ^ 4 ∷ slow_notes r (n / r ^ 4)
unfolding slow_notes
slow_notes-first r n two long = grind (arith, digit_count-split, loop_notes-first, after_four, div-pow_more)

-- ---- one digit per iteration

-- a loop that removes single digits notes what the compact writer does
pub compact_notes-are : {r n taken left : ℕ} {a b : List ℕ} → RemovesDigits r n 1 taken left a b
    → b ≡ a ++ compact_notes r n
unfolding compact_notes
compact_notes-are {r} {n} {a = a} t = t.notes ∙ ap (λ k. a ++ quotients r n 1 k) (div-one (digits_after_first r n))

-- ---- the radices in which digits are counted without a loop

-- in a radix with a fast count the digit count notes nothing
pub none_noted : (r n : ℕ) (notes : List ℕ) → has_fast_count r ≡ true → notes ≡ notes ++ count_notes r n
unfolding count_notes
none_noted r n notes at_once = rw at_once (sym (append-nil notes))

-- in any other radix the digit count notes what the slow count does
pub slow_noted : (r n : ℕ) (a b : List ℕ) → has_fast_count r ≡ false → b ≡ a ++ slow_notes r n
    → b ≡ a ++ count_notes r n
unfolding count_notes
slow_noted r n a b by_turns noted = rw by_turns noted

-- a radix other than 2, 4, 8, 10, 16 and 32 is not one of them
pub has_no_fast_count : (r : ℕ) → r ≢ 2 → r ≢ 4 → r ≢ 8 → r ≢ 10 → r ≢ 16 → r ≢ 32 → has_fast_count r ≡ false
has_no_fast_count r p2 p4 p8 p10 p16 p32 = grind arith

-- ---- the table writer

-- what the digit count notes, and then what the loops do, is what the table writer notes
pub table_notes-are : (r n : ℕ) (a b c : List ℕ) → b ≡ a ++ count_notes r n → c ≡ b ++ loop_notes r n
    → c ≡ a ++ table_notes r n
unfolding table_notes
table_notes-are r n a b c counted written = rw (written, counted) (append_assoc a (count_notes r n) (loop_notes r n))

-- ---- a number of more than four digits, whose first quotient is noted before what is noted for that quotient

-- a list to which one quotient and then others are appended
pub after_first : (a b c : List ℕ) (q : ℕ) (notes : List ℕ) → b ≡ a ++ q ∷ [] → c ≡ b ++ notes → c ≡ a ++ q ∷ notes
after_first a b c q notes noted following = rw (following, noted) (append_assoc a (q ∷ []) notes)

-- the first quotient, and then what the loops of four and two digits note of it, is what they note of the number
pub loop_notes-after : (r n : ℕ) (a b c : List ℕ)
    → 2 ≤ r → r ^ 4 ≤ n → b ≡ a ++ n / r ^ 4 ∷ [] → c ≡ b ++ loop_notes r (n / r ^ 4) → c ≡ a ++ loop_notes r n
loop_notes-after r n a b c two long noted following = grind (arith, loop_notes-first, after_first)

-- the first quotient, and then what the slow count notes of it, is what it notes of the number
pub slow_notes-after : (r n : ℕ) (a b c : List ℕ)
    → 2 ≤ r → r ^ 4 ≤ n → b ≡ a ++ n / r ^ 4 ∷ [] → c ≡ b ++ slow_notes r (n / r ^ 4) → c ≡ a ++ slow_notes r n
slow_notes-after r n a b c two long noted following = grind (arith, slow_notes-first, after_first)

-- ---- how many quotients are noted

-- a list to which some numbers are appended
pub length-more : (a b notes : List ℕ) (more : ℕ) → b ≡ a ++ notes → length notes ≡ more → length b ≡ length a + more
length-more a b notes more noted count = ap length noted ∙ length-append a notes ∙ ap (λ k. length a + k) count

-- the loops that remove four and two digits note one quotient in each iteration
pub length-loop_notes : (r n : ℕ) → length (loop_notes r n) ≡ loop_turns (digit_count r n)
unfolding loop_notes
length-loop_notes r n = grind (arith, common_steps, length-quotients)

-- the slow count notes one quotient in each iteration
pub length-slow_notes : (r n : ℕ) → length (slow_notes r n) ≡ slow_turns (digit_count r n)
unfolding slow_notes
length-slow_notes r n = grind (arith, common_steps, length-loop_notes)

-- the digit count of any radix, which has no iterations in some
pub length-count_notes : (r n : ℕ) → length (count_notes r n) ≡ count_turns r (digit_count r n)
unfolding count_notes
length-count_notes r n = grind (arith, length-slow_notes)

-- the table writer notes one number in each iteration, those of its digit count among them
pub length-table_notes : (r n : ℕ) → length (table_notes r n) ≡ table_turns r (digit_count r n)
unfolding table_notes
length-table_notes r n = grind (arith, length-append, length-count_notes, length-loop_notes)

-- the compact writer notes one quotient in each iteration
pub length-compact_notes : (r n : ℕ) → length (compact_notes r n) ≡ compact_turns (digit_count r n)
unfolding compact_notes
length-compact_notes r n = length-quotients r n 1 (digits_after_first r n)

-- ---- the largest number of iterations of the table writer

-- for at most 4 * most + 1 digits, the loops that remove four and two digits have at most `most` iterations
loop_turns-le : (digits most : ℕ) → digits ≤ 4 * most + 1 → loop_turns digits ≤ most
loop_turns-le digits most few = grind (arith, cond_both, ltb-false)

-- the loops of the count and of the writer, and one iteration more if the number of digits is even
twice_turns-le : (digits : ℕ) → digits ≤ 41 → slow_turns digits + loop_turns digits ≤ 21
twice_turns-le digits few = grind (arith, cond_both, loop_turns-le)

-- in every radix, the digit count has at most as many iterations as the slow count has for that number of digits
count_turns-le : (r digits : ℕ) → count_turns r digits ≤ slow_turns digits
count_turns-le r digits = cond_both (has_fast_count r) 0 (slow_turns digits) (λ k. k ≤ slow_turns digits)
    (λ _. omega arith) (λ _. omega arith)

-- radix 2 needs no loop to count, and in radix 3 and above a number of 64 bits has at most 41 digits
pub table_turns-le_21 : (r n : ℕ) → 2 ≤ r → n < 2 ^ 64 → table_turns r (digit_count r n) ≤ 21
table_turns-le_21 r n two fits =
    elim (cases_eq r 2) [
      | inl same ↦
          rw same (omega (
            arith,
            loop_turns-le (digit_count 2 n) 16
                (omega (arith, digit_count-le 2 n 64 (omega arith) fits)),
          ))
      | inr other ↦
          let wide : n < r ^ 41 = omega (arith, pow-le-pow_left {n = 3} {m = r} (omega arith) 41) in
          let few = digit_count-le r n 41 (omega arith) wide in
          omega (arith, count_turns-le r (digit_count r n), twice_turns-le (digit_count r n) few)
    ]

-- what the table writer notes, as a number of iterations
pub table_turns-are : (r n digits : ℕ) (a b : List ℕ)
    → b ≡ a ++ table_notes r n → digits ≡ digit_count r n → length b ≡ length a + table_turns r digits
table_turns-are r n digits a b noted count = rw count (length-more a b _ _ noted (length-table_notes r n))

-- the table writer notes at most 21 quotients of a number of a type
pub table_turns-few : (bits r n : ℕ) (a b : List ℕ)
    → 2 ≤ r → IsBitWidth bits → n < 2 ^ bits → b ≡ a ++ table_notes r n → length b ≤ length a + 21
table_turns-few bits r n a b two width fits noted = grind (arith, length-more, length-table_notes, table_turns-le_21)
