-- Numbers of one or two digits, as the characters of their pair.
use Rattle.std.proofs.Common.{◌≡◌, ℕ, ◌-◌, ◌*◌, ◌/◌, ◌%◌, ◌^◌, ◌<◌, ◌≤◌, List, [], ◌∷◌, length, drop, set, refl, inl}
use Rattle.std.proofs.Common.{inr, arith}
use Rattle.std.proofs.Math.Nat.{mod-eq_of_lt}
use Rattle.std.proofs.lemmas.Bool.{cases_eq}
use Rattle.lexical_num.specs.Digit.{digit_char}
use Rattle.lexical_write_integer.specs.Buffer.{WritesBlock}
use Rattle.lexical_write_integer.specs.DigitCount.{digit_count}
use Rattle.lexical_write_integer.specs.Numeral.{IsBlockOf}
use Rattle.lexical_write_integer.proofs.OfDigits.Count.DigitCounts.{digit_count-fits, digit_count-le, digit_count-pos}
use Rattle.lexical_write_integer.proofs.OfDigits.Numerals.{IsBlockOf-one, IsBlockOf-pair}
use Rattle.lexical_write_integer.proofs.OfDigits.Powers.{pow-one, pow-two}

-- a number below the radix is a block of one digit, its remainder by the radix
single_of : (r n : ℕ) → 2 ≤ r → n < r ^ 1 → IsBlockOf r 1 n (n % r ∷ [])
single_of r n two short = grind (arith, pow-one, mod-eq_of_lt, IsBlockOf-one)

-- if a and then b are stored at index 0 of a list that is not empty, it is then b and its elements after the first
last_of_one : (list : List ℕ) (a b : ℕ) → 1 ≤ length list → set (set list 0 a) 0 b ≡ b ∷ drop 1 list
last_of_one list a b room = grind arith

-- if a is stored at index 0 and b at index 1 of a list of at least two elements, the list is a, b and then its elements
-- after the first two
last_of_two : (list : List ℕ) (a b : ℕ) → 2 ≤ length list → set (set list 0 a) 1 b ≡ a ∷ b ∷ drop 2 list
last_of_two list a b room = grind arith

-- the two characters, stored in this order, leave the digits of a number of one or two digits
pub WritesBlock-one_or_two : (r n count : ℕ) (list : List ℕ) {a b : ℕ}
    → 2 ≤ r → n < r * r → count ≡ digit_count r n → count ≤ length list → a ≡ digit_char (n / r)
    → b ≡ digit_char (n % r)
    → WritesBlock r count n 0 list (set (set list 0 a) (count - 1) b)
WritesBlock-one_or_two r n count list two short is room first second =
    let few = digit_count-le r n 2 (omega arith) (rw pow-two short) in
    let some = digit_count-pos r n in
    let fits : n < r ^ count = rw is (digit_count-fits r n two) in
    elim (cases_eq count 2) [
      | inl twice ↦
          rw (first, second, twice)
          (record {
            digits = _;
            block = IsBlockOf-pair r n (omega arith) short;
            written = last_of_two list _ _ (omega arith);
            kept = refl;
          })
      | inr not_two ↦
          let one : count ≡ 1 = omega arith in
          rw (first, second, one) (record {
            digits = _;
            block = single_of r n two (rw one at fits);
            written = last_of_one list _ _ (omega arith);
            kept = refl;
          })
    ]
