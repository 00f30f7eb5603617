-- The text of a number in scientific notation is what the prover computes.
use Rattle.std.proofs.Common.{◌≡◌, ℕ, zero, suc, ◌*◌, ◌/◌, ◌%◌, ◌^◌, ◌<◌, ◌≤◌, ◌==◌, refl, sym, ap, ◌∙◌, inl, inr, true}
use Rattle.std.proofs.Common.{ℤ, pos, unsigned_abs, arith}
use Rattle.std.proofs.Math.Nat.{one-le-pow, pow-suc, pow-le-pow_right, mul-le-mul_right, le-mul_of_pos_right, mul_assoc}
use Rattle.std.proofs.lemmas.Bool.{cases_lt, cond-true, cond_both, eqb-true}
use Rattle.std.proofs.lemmas.Int.{ints}
use Rattle.std.specs.Prelude.{None, codes, ◌++◌, ◌+ℤ◌}
use Rattle.lexical_num.specs.Format.{standard}
use Rattle.lexical_write_integer.specs.Computed.{text_of}
use Rattle.lexical_write_integer.specs.LoopTurns.{digits_after_first}
use Rattle.lexical_write_integer.proofs.OfDigits.Count.DigitCounts.{digit_count-le_20}
use Rattle.lexical_parts.specs.Fixed.{units_text}
use Rattle.lexical_parts.specs.Length.{IsOnly}
use Rattle.lexical_parts.specs.Scientific.{IsScientific, IsScientificUnsigned, exponent_of_first, scientific_text}
use Rattle.lexical_parts.specs.Scientific.{without_zeros}
use Rattle.lexical_parts.proofs.Equations.{only_exactly, only_text, only_then}
use Rattle.lexical_parts.proofs.OfNumbers.FixedTexts.{only_units}

-- if zeros at the end of 0 are left out, at most `most` of them, 0 is left
none_left : (most : ℕ) → without_zeros most 0 ≡ 0
none_left zero = refl
none_left (suc most) = none_left most

-- the digits that are left are those before the zeros
left_digits : (most number count units : ℕ) → count ≤ most → number ≡ units * 10 ^ count
    → (units % 10 ≡ 0 → (units ≡ 0) × (count ≡ 0))
    → without_zeros most number ≡ units
left_digits zero number zero units few whole shortest = grind arith
left_digits zero number (suc count) units few whole shortest = absurd (omega arith)
left_digits (suc most) number zero units few whole shortest =
    let same : number ≡ units = omega arith in
    cond_both (number % 10 == 0) (without_zeros most (number / 10)) number (λ k. k ≡ units)
    (λ e.
    let none : units ≡ 0 = (shortest (rw same at (eqb-true (number % 10) 0 e))).0 in
    let rest : number / 10 ≡ 0 = omega arith in
    rw (rest, none) (none_left most))
    (λ _. same)
left_digits (suc most) number (suc count) units few whole shortest =
    let product : number ≡ units * 10 ^ count * 10 = whole ∙ ap (λ p. units * p) (pow-suc 10 count)
    ∙ sym (mul_assoc units (10 ^ count) 10) in
    let more : number % 10 ≡ 0 = omega (arith, product) in
    let rest : number / 10 ≡ units * 10 ^ count = omega (arith, product) in
    let equal : (number % 10 == 0) ≡ true = rw more refl in
    cond-true _ _ _ equal ∙ left_digits most (number / 10) count units (omega arith) rest
    (λ none. absurd (omega (arith, (shortest none).1)))

-- a number below 2 ^ 64 has at most 20 zeros at its end (19 in truth, which no proof needs)
few_zeros : (number units zeros : ℕ) → number < 2 ^ 64 → number ≡ units * 10 ^ zeros
    → (units % 10 ≡ 0 → (units ≡ 0) × (zeros ≡ 0)) → zeros ≤ 20
few_zeros number units zeros small whole shortest = elim (cases_lt 20 zeros) [
  | inl many ↦ elim (cases_lt 0 units) [
    | inl some ↦
        let large = pow-le-pow_right {n = 10} (omega arith) {i = 20} {j = zeros} (omega arith) in
        let least : 1 * 10 ^ zeros ≤ units * 10 ^ zeros = mul-le-mul_right (10 ^ zeros) (omega arith) in
        absurd (omega (arith, large, least, whole, small))
    | inr none ↦ let zero_units : units % 10 ≡ 0 = omega arith in absurd (omega (arith, (shortest zero_units).1, many))
  ]
  | inr few ↦ omega arith
]

-- every scientific text of a natural number below 2 ^ 64 times a power of ten is the computed one, if the exponent of
-- the first digit is below 2 ^ 64 in magnitude
only_unsigned : (number : ℕ) (exponent : ℤ) → number < 2 ^ 64
    → unsigned_abs (exponent_of_first number exponent) < 2 ^ 64
    → IsOnly (IsScientificUnsigned number exponent)
    (units_text None (digits_after_first 10 (without_zeros 20 number)) (without_zeros 20 number)
    ++ (codes "e" ++ text_of (exponent_of_first number exponent) standard))
only_unsigned number exponent small low = record {
  only = λ text is.
      let few = few_zeros number is.units is.zeros small is.whole is.shortest in
      let same : without_zeros 20 number ≡ is.units =
      left_digits 20 number is.zeros is.units few is.whole is.shortest in
      let less : is.units ≤ is.units * 10 ^ is.zeros =
      le-mul_of_pos_right is.units (one-le-pow is.zeros 10 (omega arith)) in
      let below : is.units < 2 ^ 64 = omega (arith, less, is.whole, small) in
      let rest = only_then (only_exactly (codes "e"))
      (only_text (exponent_of_first number exponent) standard (omega arith) low) in
      rw same ((only_then (only_units (digits_after_first 10 is.units) is.units below) rest).only text is.is);
}

-- if a number is below 2 ^ 64 and e is at most 2 ^ 31 in magnitude, the exponent of the first digit of the number times
-- 10 ^ e is below 2 ^ 64 in magnitude
small_exponent : (number : ℕ) (exponent : ℤ) → number < 2 ^ 64 → unsigned_abs exponent ≤ 2 ^ 31
    → unsigned_abs (exponent_of_first number exponent) < 2 ^ 64
small_exponent number exponent small few =
    let digits = digit_count-le_20 number small in
    cond_both (number == 0) (pos 0) (exponent +ℤ pos (digits_after_first 10 number)) (λ e. unsigned_abs e < 2 ^ 64)
    (λ _. omega arith)
    (λ _. omega (arith, ints, digits, few))

-- it is the only text, if the number is below 2 ^ 64 and the exponent at most 2 ^ 31 in magnitude
pub only_scientific : (number exponent : ℤ) → unsigned_abs number < 2 ^ 64 → unsigned_abs exponent ≤ 2 ^ 31
    → IsOnly (IsScientific number exponent) (scientific_text number exponent)
only_scientific number exponent small few =
    only_then (only_exactly _) (only_unsigned (unsigned_abs number) exponent small
    (small_exponent (unsigned_abs number) exponent small few))
