-- How many digits a number has: the least exponent, from both sides, and what a division by a power of the radix
-- leaves.
use mir.Val.{bool_byte}
use Rattle.std.proofs.Common.{◌≡◌, ℕ, zero, suc, ◌+◌, ◌-◌, ◌*◌, ◌/◌, ◌^◌, ◌<◌, ◌≤◌, List, Bool, true, false, ltb, refl}
use Rattle.std.proofs.Common.{sym, ◌∙◌, inl, inr, arith}
use Rattle.std.proofs.Math.Nat.{pow-zero, pow-le-pow_right, mul-le-mul_right, one-le-pow, div-lt_iff_lt-mul}
use Rattle.std.proofs.Math.Nat.{div-mul-le_self, div-one}
use Rattle.std.proofs.lemmas.Bool.{cases_lt, ltb-true, cond_both}
use Rattle.std.proofs.lemmas.Nat.{pow-add}
use Rattle.lexical_num.specs.BitWidth.{IsBitWidth}
use Rattle.lexical_write_integer.specs.Buffer.{WritesDigits}
use Rattle.lexical_write_integer.specs.DigitCount.{digit_count, least_exponent}
pub use Rattle.lexical_write_integer.specs.DigitCount.{digit_count-le, digit_count-le_bits}
use Rattle.lexical_write_integer.proofs.OfDigits.Powers.{lt-pow_self, pow-one}

-- ---- the least exponent

-- a search for the least exponent from n on does not end below n
least_exponent-ge : (r number n steps : ℕ) → n ≤ least_exponent r number n steps
unfolding least_exponent
least_exponent-ge r number n zero = omega arith
least_exponent-ge r number n (suc steps) =
    cond_both (ltb number (r ^ n)) n (least_exponent r number (suc n) steps) (λ k. n ≤ k) (λ e. omega arith)
    (λ e. omega (arith, least_exponent-ge r number (suc n) steps))

-- if a number is below r ^ (n + steps), the search for the least such exponent from n on, in at most `steps` steps,
-- ends at an e such that the number is below r ^ e
least_exponent-fits : (r number n steps : ℕ) → number < r ^ (n + steps) → number < r ^ least_exponent r number n steps
unfolding least_exponent
least_exponent-fits r number n zero fits = let e : n + 0 ≡ n = omega arith in rw e at fits
least_exponent-fits r number n (suc steps) fits =
    cond_both (ltb number (r ^ n)) n (least_exponent r number (suc n) steps) (λ k. number < r ^ k)
    (ltb-true number (r ^ n))
    (λ _. let e : n + suc steps ≡ suc n + steps = omega arith in least_exponent-fits r number (suc n) steps
    (rw e at fits))

-- ---- both sides of the count

-- every number has at least one digit
pub digit_count-pos : (r number : ℕ) → 1 ≤ digit_count r number
unfolding digit_count
digit_count-pos r number = least_exponent-ge r number 1 number

-- a number of n digits is below the radix to the power of n
pub digit_count-fits : (r number : ℕ) → 2 ≤ r → number < r ^ digit_count r number
unfolding digit_count
digit_count-fits r number two = grind (arith, least_exponent-fits, lt-pow_self)

-- a number of n digits, more than one, is at least the radix to the power of n - 1
pub digit_count-full : (r n : ℕ) → 2 ≤ r → 1 < digit_count r n → r ^ (digit_count r n - 1) ≤ n
digit_count-full r n two long =
    elim (cases_lt n (r ^ (digit_count r n - 1))) [
      | inl less ↦ absurd (omega (arith, digit_count-le r n (digit_count r n - 1) (omega arith) less))
      | inr more ↦ more
    ]

-- a smaller number has no more digits
pub digit_count-monotone : (r m n : ℕ) → 2 ≤ r → m ≤ n → digit_count r m ≤ digit_count r n
digit_count-monotone r m n two less =
    digit_count-le r m (digit_count r n) (digit_count-pos r n) (omega (arith, digit_count-fits r n two))

-- a count that both sides allow is the count
pub digit_count-is : (r number n : ℕ) → 2 ≤ r → 1 ≤ n → number < r ^ n → (1 < n → r ^ (n - 1) ≤ number)
    → digit_count r number ≡ n
digit_count-is r number n two some fits full =
    elim (cases_lt (digit_count r number) n) [
      | inl less ↦
          let one = digit_count-pos r number in
          let below = pow-le-pow_right {n = r} (omega arith) {i = digit_count r number} {j = n - 1} (omega arith) in
          let fit = digit_count-fits r number two in
          absurd (omega (arith, full (omega arith)))
      | inr more ↦ omega (arith, digit_count-le r number n some fits)
    ]

-- a number below the radix has one digit
pub digit_count-one : (r n : ℕ) → 2 ≤ r → n < r → digit_count r n ≡ 1
digit_count-one r n two short = digit_count-is r n 1 two (omega arith) (rw pow-one short) (λ more. absurd (omega arith))

-- ---- what divisions leave

-- a division by `r ^ count` removes `count` digits from a number that has more
pub digit_count-split : (r count n : ℕ) → 2 ≤ r → r ^ count ≤ n
    → digit_count r n ≡ digit_count r (n / r ^ count) + count
digit_count-split r count n two long =
    let p = r ^ count in
    let q = n / p in
    let c = digit_count r q in
    let some : 0 < p = one-le-pow count r (omega arith) in
    let fits : n < r ^ (c + count) = rw (pow-add r c count) ((div-lt_iff_lt-mul some).0 (digit_count-fits r q two)) in
    let full : 1 < c + count → r ^ (c + count - 1) ≤ n =
    λ _. elim (cases_lt 1 c) [
      | inl more ↦
          let e : c + count - 1 ≡ (c - 1) + count = omega arith in
          let first : r ^ (c - 1) * p ≤ q * p = mul-le-mul_right p (digit_count-full r q two more) in
          rw (e, pow-add r (c - 1) count) (omega (arith, div-mul-le_self n p))
      | inr one ↦ let e : c + count - 1 ≡ count = omega (arith, digit_count-pos r q) in rw e long
    ] in
    digit_count-is r n (c + count) two (omega (arith, digit_count-pos r q)) fits full

-- a number of more than `taken` digits has `taken` fewer after a division by `r ^ taken`
pub digit_count-left : (r n taken left : ℕ) → 2 ≤ r → taken < digit_count r n → left ≡ n / r ^ taken
    → digit_count r left + taken ≡ digit_count r n
digit_count-left r n zero left two fewer is = rw (is, pow-zero, div-one) (omega arith)
digit_count-left r n (suc taken) left two fewer is =
    let power = pow-le-pow_right {n = r} (omega arith) {i = suc taken} {j = digit_count r n - 1} (omega arith) in
    rw is (sym (digit_count-split r (suc taken) n two (omega (arith, digit_count-full r n two (omega arith)))))

-- a number that is at least `r ^ count` has more than `count` digits
pub digit_count-more : (r count n : ℕ) → 2 ≤ r → r ^ count ≤ n → count < digit_count r n
digit_count-more r count n two long =
    omega (arith, digit_count-split r count n two long, digit_count-pos r (n / r ^ count))

-- a number of two digits
pub digit_count-two : (r n : ℕ) → 2 ≤ r → r ≤ n → n < r ^ 2 → digit_count r n ≡ 2
digit_count-two r n two more less = digit_count-is r n 2 two (omega arith) less (λ long. rw pow-one more)

-- a number of `k` digits, or of one more if a test says so
pub digit_count-tested : (test : Bool) (r n k : ℕ)
    → 2 ≤ r → 1 ≤ k → (1 < k → r ^ (k - 1) ≤ n) → n < r ^ (k + 1) → (test ≡ true → r ^ k ≤ n)
    → (test ≡ false → n < r ^ k)
    → k + bool_byte test ≡ digit_count r n
digit_count-tested true r n k two some low high more fewer =
    let order : k + 1 - 1 ≡ k = omega arith in
    sym (digit_count-is r n (k + 1) two (omega arith) high (λ _. rw order (more refl)))
digit_count-tested false r n k two some low high more fewer =
    let none : k + 0 ≡ k = omega arith in none ∙ sym (digit_count-is r n k two some (fewer refl) low)

-- ---- the numbers of a type

-- a decimal width whose smallest number is within a limit
pub width-le : (width most limit : ℕ) → 10 ^ (width - 1) ≤ limit → limit < 10 ^ most → width ≤ most
width-le width most limit needed below = grind (arith, cases_lt, pow-le-pow_right)

-- no type has more than 64 bits
pub width-le_64 : (bits : ℕ) → IsBitWidth bits → bits ≤ 64
width-le_64 bits is = grind arith

-- each type has at least one bit
pub width-some : (bits : ℕ) → IsBitWidth bits → 0 < bits
width-some bits is = grind arith

-- a number has at most one digit for each bit of its type
pub digit_count-le_width : (r n bits : ℕ) → 2 ≤ r → IsBitWidth bits → n < 2 ^ bits → digit_count r n ≤ bits
digit_count-le_width r n bits two width fits = digit_count-le_bits r n bits two (width-some bits width) fits

-- a writer of the digits of a number writes at most one byte for each bit of its type
pub WritesDigits-short : {r n bits len : ℕ} {before after : List ℕ}
    → WritesDigits r n before after len → 2 ≤ r → IsBitWidth bits → n < 2 ^ bits → len ≤ bits
WritesDigits-short w two width fits = omega (arith, w.count, digit_count-le_width _ _ _ two width fits)

-- a number of each type has at most 64 digits
pub digit_count-le_64 : (r n bits : ℕ) → 2 ≤ r → IsBitWidth bits → n < 2 ^ bits → digit_count r n ≤ 64
digit_count-le_64 r n bits two width fits =
    omega (arith, digit_count-le_width r n bits two width fits, width-le_64 bits width)

-- ---- decimal digits, for each width

-- a number of 8 bits has at most 3 digits in decimal
pub digit_count-le_3 : (n : ℕ) → n < 2 ^ 8 → digit_count 10 n ≤ 3
digit_count-le_3 n fits = digit_count-le 10 n 3 (omega arith) (omega arith)

-- a number of 16 bits at most 5
pub digit_count-le_5 : (n : ℕ) → n < 2 ^ 16 → digit_count 10 n ≤ 5
digit_count-le_5 n fits = digit_count-le 10 n 5 (omega arith) (omega arith)

-- a number of 32 bits at most 10
pub digit_count-le_10 : (n : ℕ) → n < 2 ^ 32 → digit_count 10 n ≤ 10
digit_count-le_10 n fits = digit_count-le 10 n 10 (omega arith) (omega arith)

-- a number below 10 ^ 19, as is each magnitude of an `i64`, at most 19
pub digit_count-le_19 : (n : ℕ) → n < 10 ^ 19 → digit_count 10 n ≤ 19
digit_count-le_19 n fits = digit_count-le 10 n 19 (omega arith) (omega arith)

-- a number of 64 bits has at most 20 decimal digits
pub digit_count-le_20 : (n : ℕ) → n < 2 ^ 64 → digit_count 10 n ≤ 20
digit_count-le_20 n fits = digit_count-le 10 n 20 (omega arith) (omega arith)

-- how many decimal digits a number has at most, for a buffer that has room for every number of a width
pub ruleset widths = (digit_count-le_3, digit_count-le_5, digit_count-le_10, digit_count-le_19, digit_count-le_20)
