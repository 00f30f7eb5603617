-- The value of a list of digits.
use Rattle.std.proofs.Common.{◌≡◌, ℕ, ◌+◌, ◌*◌, ◌^◌, ◌<◌, ◌≤◌, List, [], ◌∷◌, ◌++◌, length, refl, sym, ap, ◌∙◌, arith}
use Rattle.std.proofs.Common.{length-append}
use Rattle.std.specs.List.{All}
use Rattle.std.proofs.Math.Nat.{pow-zero, pow-suc, mul-le-mul_left}
use Rattle.std.proofs.lemmas.List.Elements.{All-head, All-tail}
use Rattle.std.proofs.lemmas.Nat.{same_from_place, pow-add, mul-add-lt}
use Rattle.lexical_write_integer.specs.Numeral.{value_of}

-- the value of two lists in a row: that of the first, moved by as many digits as the second has, plus the other
pub value_of-append : (r : ℕ) (xs ys : List ℕ) → value_of r (xs ++ ys) ≡ value_of r xs * r ^ length ys + value_of r ys
value_of-append r [] ys = omega arith
value_of-append r (x ∷ xs) ys =
    let rest = value_of-append r xs ys in
    let split : r ^ length (xs ++ ys) ≡ r ^ length xs * r ^ length ys =
    ap (λ n. r ^ n) (length-append xs ys) ∙ pow-add r (length xs) (length ys) in
    grind (arith, rest, split)

-- the value of a single digit is the digit
pub value_of-one : (r d : ℕ) → value_of r (d ∷ []) ≡ d
value_of-one r d = rw pow-zero (omega arith)

-- the value of n digits is below `r ^ n`
pub value_of-lt : (r : ℕ) (xs : List ℕ) → All (λ d. d < r) xs → value_of r xs < r ^ length xs
value_of-lt r [] below = omega (arith, pow-zero r)
value_of-lt r (x ∷ xs) below =
    let rest = value_of-lt r xs (All-tail (λ d. d < r) x xs below) in
    let first = All-head (λ d. d < r) x xs below in
    let place = mul-add-lt x (r ^ length xs) (value_of r xs) r first rest in
    let more = pow-suc r (length xs) in
    omega arith

-- if the first of n + 1 digits is not 0, their value is at least `r ^ n`
pub value_of-ge : (r x : ℕ) (xs : List ℕ) → 0 < x → r ^ length xs ≤ value_of r (x ∷ xs)
value_of-ge r x xs some = omega (arith, mul-le-mul_left (r ^ length xs) some)

-- two lists of digits of the same length and value are equal
pub same_digits : (r : ℕ) (xs ys : List ℕ) → length xs ≡ length ys → All (λ d. d < r) xs → All (λ d. d < r) ys
    → value_of r xs ≡ value_of r ys → xs ≡ ys
same_digits r [] [] long p q same = refl
same_digits r [] (y ∷ ys) long p q same = absurd (omega arith)
same_digits r (x ∷ xs) [] long p q same = absurd (omega arith)
same_digits r (x ∷ xs) (y ∷ ys) long p q same =
    let long' : length xs ≡ length ys = omega arith in
    let p' = All-tail (λ d. d < r) x xs p in
    let q' = All-tail (λ d. d < r) y ys q in
    let place : x * r ^ length xs + value_of r xs ≡ y * r ^ length xs + value_of r ys =
    same ∙ ap (λ n. y * r ^ n + value_of r ys) (sym long') in
    let both = same_from_place x (value_of r xs) y (value_of r ys) (r ^ length xs) (value_of-lt r xs p')
    (rw long' (value_of-lt r ys q')) place in
    let rest = same_digits r xs ys long' p' q' both.1 in
    cc (both.0)
