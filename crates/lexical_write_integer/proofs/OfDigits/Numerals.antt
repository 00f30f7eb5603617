-- Laws of numerals: every number has exactly one, how many digits it has, and how it is put together from parts.
use Rattle.std.proofs.lemmas.Grind.{common_steps}
use Rattle.std.proofs.Common.{◌≡◌, ℕ, zero, suc, ◌+◌, ◌-◌, ◌*◌, ◌/◌, ◌%◌, ◌^◌, ◌<◌, ◌≤◌, List, [], ◌∷◌, ◌++◌, length}
use Rattle.std.proofs.Common.{sym, ap, ◌∙◌, inl, inr, arith}
use Rattle.std.specs.Int.Digits.{digits_of, number_from_digits_after}
use Rattle.std.proofs.Math.Nat.{pow-zero, pow-suc, one-le-pow, div-add-mod'}
use Rattle.std.proofs.lemmas.Int.Digits.{number_digits_of, all_below_base_digits_of, first_digits_of}
use Rattle.std.proofs.lemmas.Int.Digits.{length-digits_of_step}
use Rattle.std.proofs.lemmas.Bool.{cases_lt}
use Rattle.std.proofs.lemmas.List.{length-map}
use Rattle.std.proofs.lemmas.List.Elements.{All-from_recursion}
use Rattle.std.proofs.lemmas.Nat.{le-div, div_below}
use Rattle.lexical_num.specs.Digit.{digit_char}
use Rattle.lexical_write_integer.specs.DigitCount.{digit_count}
use Rattle.lexical_write_integer.specs.Numeral.{IsNumeral, IsNumeralOf, IsBlockOf, value_of}
use Rattle.lexical_write_integer.specs.Text.{IsDigits}
use Rattle.lexical_write_integer.proofs.OfDigits.Count.DigitCounts.{digit_count-is}
use Rattle.lexical_write_integer.proofs.OfDigits.Powers.{pow-one}
use Rattle.lexical_write_integer.proofs.OfDigits.DigitValues.{value_of-append, value_of-one, value_of-lt, value_of-ge}
use Rattle.lexical_write_integer.proofs.OfDigits.DigitValues.{same_digits}

-- ---- one numeral at most

-- a numeral of n digits, more than one, has a value of at least `r ^ (n - 1)`
IsNumeral-ge : (r : ℕ) (digits : List ℕ) → IsNumeral r digits → 1 < length digits
    → r ^ (length digits - 1) ≤ value_of r digits
IsNumeral-ge r digits n long = grind (arith, common_steps, value_of-ge)

-- a numeral has as many digits as the digit count of its value, in a radix of at least 2
length-IsNumeral : (r : ℕ) (digits : List ℕ) → 2 ≤ r → IsNumeral r digits
    → length digits ≡ digit_count r (value_of r digits)
length-IsNumeral r digits two n = grind (arith, digit_count-is, value_of-lt, IsNumeral-ge)

-- the numeral of a number has as many digits as the digit count says
pub length-IsNumeralOf : {r n : ℕ} {digits : List ℕ} → 2 ≤ r → IsNumeralOf r n digits → length digits ≡ digit_count r n
length-IsNumeralOf {r} {n} {digits} two p = length-IsNumeral r digits two p.numeral ∙ ap (digit_count r) p.value

-- in a radix below 2 the only numeral is that of 0
only_zero : (r : ℕ) (digits : List ℕ) → r < 2 → IsNumeral r digits → digits ≡ 0 ∷ []
only_zero r digits small n = grind arith

-- two numerals of the same value are equal, in any radix
pub numeral_unique : (r : ℕ) (xs ys : List ℕ) → IsNumeral r xs → IsNumeral r ys
    → value_of r xs ≡ value_of r ys → xs ≡ ys
numeral_unique r xs ys p q same =
    elim (cases_lt r 2) [
      | inl small ↦ only_zero r xs small p ∙ sym (only_zero r ys small q)
      | inr two ↦
          same_digits r xs ys (length-IsNumeral r xs two p ∙ ap (digit_count r) same
          ∙ sym (length-IsNumeral r ys two q)) p.below_radix q.below_radix same
    ]

-- ---- blocks of digits, and a numeral before a block

-- a digit alone is a block of one digit
pub IsBlockOf-one : (r d : ℕ) → d < r → IsBlockOf r 1 d (d ∷ [])
IsBlockOf-one r d small = grind (arith, value_of-one)

-- two blocks in a row are one block
pub IsBlockOf-append : {r i j m n : ℕ} {xs ys : List ℕ} → IsBlockOf r i m xs → IsBlockOf r j n ys
    → IsBlockOf r (i + j) (m * r ^ j + n) (xs ++ ys)
IsBlockOf-append {r} {i} {j} {m} {n} {xs} {ys} p q = grind (arith, common_steps, value_of-append)

-- the quotient and the remainder by the radix are the two digits of a number below the square of the radix
pub IsBlockOf-pair : (r n : ℕ) → 0 < r → n < r * r → IsBlockOf r 2 n (n / r ∷ n % r ∷ [])
IsBlockOf-pair r n some small = grind (arith, pow-one, IsBlockOf-one, div_below)

-- the digit 0 alone is the numeral of 0, if the radix is not 0
IsNumeralOf-zero : (r : ℕ) → 0 < r → IsNumeralOf r 0 (0 ∷ [])
IsNumeralOf-zero r some = grind arith

-- digits after the numeral of a number that is not 0
pub IsNumeralOf-append : {r count q m : ℕ} {xs ys : List ℕ} → 0 < q → IsNumeralOf r q xs → IsBlockOf r count m ys
    → IsNumeralOf r (q * r ^ count + m) (xs ++ ys)
IsNumeralOf-append {r} {count} {q} {m} {xs} {ys} pos p b =
    grind (arith, common_steps, value_of-append)

-- the numeral of a number that is at least `r ^ count`: that of its quotient, and then `count` digits of its remainder
pub IsNumeralOf-split : (r count n : ℕ) (front back : List ℕ)
    → 2 ≤ r → r ^ count ≤ n → IsNumeralOf r (n / r ^ count) front → IsBlockOf r count (n % r ^ count) back
    → IsNumeralOf r n (front ++ back)
IsNumeralOf-split r count n front back two long p b =
    let some = one-le-pow count r (omega arith) in
    let pos : 0 < n / r ^ count = le-div 1 n (r ^ count) some (omega arith) in
    rw (div-add-mod' n (r ^ count)) at (IsNumeralOf-append pos p b)

-- ---- at least one numeral: the digits with which std prints numbers

-- the number that std computes from k digits after those of n is n * r ^ k plus the value of the k digits in radix r
value_of-after : (r n : ℕ) (ds : List ℕ) → number_from_digits_after r n ds ≡ n * r ^ length ds + value_of r ds
value_of-after r n [] = rw pow-zero (omega arith)
value_of-after r n (d ∷ ds) =
    let more : (n * r + d) * r ^ length ds ≡ n * (r ^ length ds * r) + d * r ^ length ds = grind arith in
    rw (pow-suc r (length ds)) (omega (arith, value_of-after r (n * r + d) ds, more))

-- the digits that std computes of a number other than 0 are its numeral, in a radix of at least 2
IsNumeralOf-digits_of : (r n : ℕ) → 2 ≤ r → 0 < n → IsNumeralOf r n (digits_of r n)
IsNumeralOf-digits_of r n two pos = record {
  numeral = record {
    nonempty = omega (arith, length-digits_of_step r n two pos);
    below_radix = All-from_recursion (λ d. d < r) (digits_of r n) (all_below_base_digits_of r n two);
    no_leading_zero = λ e. absurd (omega (arith, first_digits_of r n two pos));
  };
  value = omega (arith, number_digits_of r n two, value_of-after r 0 (digits_of r n));
}

-- every number has a numeral, whose length is the digit count of the number
pub numeral_exists : (r n : ℕ) → 2 ≤ r → (digits : List ℕ) × IsNumeralOf r n digits × (length digits ≡ digit_count r n)
numeral_exists r zero two = (
  0 ∷ [],
  IsNumeralOf-zero r (omega arith),
  length-IsNumeralOf two (IsNumeralOf-zero r (omega arith)),
)
numeral_exists r (suc n) two =
    let p = IsNumeralOf-digits_of r (suc n) two (omega arith) in
    (digits_of r (suc n), p, length-IsNumeralOf two p)

-- a block whose length is the digit count of the number is its numeral
pub IsNumeralOf-block : (r n count : ℕ) (digits : List ℕ) → 2 ≤ r → digit_count r n ≡ count → IsBlockOf r count n digits
    → IsNumeralOf r n digits
IsNumeralOf-block r n count digits two few b =
    let numeral = numeral_exists r n two in
    let p = numeral.1 in
    let same = same_digits r numeral.0 digits (numeral.2 ∙ few ∙ sym b.counted) p.numeral.below_radix b.below_radix
    (p.value ∙ sym b.value) in
    rw same at p

-- ---- texts

-- a number has one text of digits
pub digits_unique : (r n : ℕ) (a b : List ℕ) → 2 ≤ r → IsDigits r n a → IsDigits r n b → a ≡ b
digits_unique r n a b two p q = grind (arith, numeral_unique)

-- the length of the digits of a number is its digit count
pub length-IsDigits : (r n : ℕ) (text : List ℕ) → 2 ≤ r → IsDigits r n text → length text ≡ digit_count r n
length-IsDigits r n text two p = ap length p.characters ∙ length-map p.digits digit_char
    ∙ length-IsNumeralOf two p.numeral
