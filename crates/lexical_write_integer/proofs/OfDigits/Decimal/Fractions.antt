-- A fraction that carries a number's digits: each multiplication by 100 moves the next pair before the point.
use Rattle.std.proofs.Common.{◌≡◌, ℕ, ◌+◌, ◌-◌, ◌*◌, ◌/◌, ◌%◌, ◌^◌, ◌<◌, ◌≤◌, ap, ◌∙◌, arith}
use Rattle.std.proofs.Math.Nat.{one-le-pow, mul-le-mul_left, mul-le-mul_right, pow-le-pow_right}
use Rattle.std.proofs.Math.Nat.{le_of_mul-le-mul_right, lt_of_mul-lt-mul_right, div-eq_of_lt-le}
use Rattle.std.proofs.lemmas.Nat.{pow-add, mul-mod_first}
use Rattle.lexical_write_integer.specs.Carries.{Carries, carried}

-- ---- the number that a fraction carries

-- two fractions that are near enough to each other have the same whole part
whole_part : (n y p w : ℕ) → 0 < p → n * w ≤ y * p → y * p < (n + 1) * w → y / w ≡ n / p
whole_part n y p w some low high =
    let q = n / p in
    let floor : q * p * w ≤ n * w = mul-le-mul_right w (omega arith) in
    let top : (n + 1) * w ≤ (q + 1) * p * w = mul-le-mul_right w (omega arith) in
    let at_least : q * w ≤ y = le_of_mul-le-mul_right {k = p} (grind arith) some in
    let below : y < (q + 1) * w = lt_of_mul-lt-mul_right p (grind arith) in
    div-eq_of_lt-le w at_least below

-- the whole part is the first pair
pub Carries-first : {n y k : ℕ} → Carries n y k → y / 2 ^ 32 ≡ n / 100 ^ k
Carries-first {n} {y} {k} carries = whole_part n y (100 ^ k) (2 ^ 32) (one-le-pow k 100 (omega arith))
    carries.at_least carries.below

-- the part after the point, times 100, carries the digits after the first pair
pub Carries-next : {n y k : ℕ} → 1 ≤ k → Carries n y k → Carries (n % 100 ^ k) (y % 2 ^ 32 * 100) (k - 1)
Carries-next {n} {y} {k} some carries =
    let p = 100 ^ k in
    let q = n / p in
    let first : y / 2 ^ 32 ≡ q = Carries-first carries in
    let fraction : q * 2 ^ 32 + y % 2 ^ 32 ≡ y = omega arith in
    let whole : (q * 2 ^ 32 + y % 2 ^ 32) * p ≡ y * p = ap (λ z. z * p) fraction in
    let last : k - 1 + 1 ≡ k = omega arith in
    let power : p ≡ 100 ^ (k - 1) * 100 = rw last at (pow-add 100 (k - 1) 1) in
    let shifted : y % 2 ^ 32 * 100 * 100 ^ (k - 1) ≡ y % 2 ^ 32 * p = rw power (grind arith) in
    grind arith

-- ---- pair by pair

-- a fraction that is moved by one further pair
moved_more : (y i : ℕ) → y * 100 ^ i * 100 ≡ y * 100 ^ (i + 1)
moved_more y i = rw (pow-add 100 i 1) (grind arith)

-- with 32 bits after the point, the whole part of 100 times a fraction is 100 times its whole part, plus the whole part
-- of 100 times what is after the point
whole_part_of_product : (y : ℕ) → y * 100 / 2 ^ 32 ≡ y / 2 ^ 32 * 100 + y % 2 ^ 32 * 100 / 2 ^ 32
whole_part_of_product y = omega arith

-- one further pair is the whole part of 100 times what is after the point
pub carried-more : (y i : ℕ) → carried y (i + 1) ≡ carried y i * 100 + y * 100 ^ i % 2 ^ 32 * 100 / 2 ^ 32
carried-more y i = rw (moved_more y i) at (whole_part_of_product (y * 100 ^ i))

-- the part after the point, after one further pair
pub rest-more : (y i rest : ℕ) → rest ≡ y * 100 ^ i % 2 ^ 32 → rest * 100 % 2 ^ 32 ≡ y * 100 ^ (i + 1) % 2 ^ 32
rest-more y i rest is = rw is (mul-mod_first (y * 100 ^ i) 100 (2 ^ 32) ∙ ap (λ z. z % 2 ^ 32) (moved_more y i))

-- the number that more pairs carry is not smaller
pub carried-monotone : (y i j : ℕ) → i ≤ j → carried y i ≤ carried y j
carried-monotone y i j fewer = grind (arith, mul-le-mul_left, pow-le-pow_right)
