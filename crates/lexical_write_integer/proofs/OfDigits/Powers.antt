-- Laws of powers, and of quotients by them, in general.
use Rattle.std.proofs.Common.{◌≡◌, ℕ, zero, suc, ◌+◌, ◌*◌, ◌/◌, ◌^◌, ◌<◌, ◌≤◌, refl, sym, ap, ◌∙◌, arith}
use Rattle.std.proofs.Math.Nat.{pow-zero, pow-suc, pow-le-pow_right, one-le-pow, mul-le-mul_left, div-div-eq-div-mul}
use Rattle.std.proofs.lemmas.Nat.{pow-add}
pub use Rattle.lexical_write_integer.proofs.OfTexts.SizeBounds.{div-monotone}

-- the first power of a number is the number
pub pow-one : (r : ℕ) → r ^ 1 ≡ r
pow-one r = rw (pow-suc r 0, pow-zero) (omega arith)

-- the second power as a product
pub pow-two : (r : ℕ) → r ^ 2 ≡ r * r
pow-two r = rw (pow-suc r 1, pow-one) refl

-- the third power as a product
pub pow-three : (r : ℕ) → r ^ 3 ≡ r * r * r
pow-three r = rw (pow-suc r 2, pow-two) refl

-- the fourth power is the square of the square
pub pow-four : (r : ℕ) → r ^ 4 ≡ r * r * (r * r)
pow-four r = rw (pow-add r 2 2, pow-two) refl

-- the eighth power is the square of the fourth
pub pow-eight : (r : ℕ) → r ^ 8 ≡ r ^ 4 * r ^ 4
pow-eight r = pow-add r 4 4

-- a power of a power
pub pow-pow : (base i j : ℕ) → (base ^ i) ^ j ≡ base ^ (i * j)
pow-pow base i zero = let none : i * zero ≡ 0 = omega arith in
    pow-zero (base ^ i) ∙ sym (ap (λ k. base ^ k) none ∙ pow-zero base)
pow-pow base i (suc j) = let more : i * suc j ≡ i * j + i = omega arith in
    rw (more, pow-suc (base ^ i) j, pow-add base (i * j) i, pow-pow base i j)

-- ---- order

-- a number is below 2 to itself, and so below any larger radix to itself
pub lt-pow_self : (r n : ℕ) → 2 ≤ r → n < r ^ n
lt-pow_self r zero two = omega (arith, pow-zero r)
lt-pow_self r (suc n) two = omega (arith, lt-pow_self r n two, pow-suc r n, mul-le-mul_left (r ^ n) two)

-- a larger exponent makes a larger power
pub pow-lt_more : (r i j : ℕ) → 2 ≤ r → i < j → r ^ i < r ^ j
pow-lt_more r i (suc j) two less =
    omega (
      arith,
      pow-le-pow_right {n = r} (omega arith) {i = i} {j = j} (omega arith),
      pow-suc r j,
      mul-le-mul_left (r ^ j) two,
      one-le-pow j r (omega arith),
    )
pow-lt_more r i zero two less = absurd (omega arith)

-- ---- quotients

-- a quotient that is divided by a further power
pub div-pow_more : (r n step taken : ℕ) → n / r ^ taken / r ^ step ≡ n / r ^ (step + taken)
div-pow_more r n step taken = grind (arith, div-div-eq-div-mul, pow-add)
