-- Numbers times powers of ten in scientific notation: equal texts are of equal numbers.
use Rattle.std.proofs.Common.{◌≡◌, ◌≢◌, ℕ, zero, suc, ◌+◌, ◌*◌, ◌/◌, ◌^◌, ◌<◌, ◌≤◌, List, [], ◌∷◌, ◌++◌}
use Rattle.std.proofs.Common.{append_assoc}
use Rattle.std.proofs.Common.{refl, sym, ap, ◌∙◌, ℤ, pos, negsuc, false, arith}
use Rattle.std.specs.Prelude.{◌+ℤ◌, ◌*ℤ◌, unsigned_abs}
use Rattle.std.specs.List.{All}
use Rattle.std.proofs.Math.IntN.{negsuc-*ℤ-pos, neg_ℤ, pos-*ℤ-pos}
use Rattle.std.proofs.Math.Nat.{mul-div_cancel, mul-le-mul_right, one-le-pow}
use Rattle.std.proofs.lemmas.Bool.Decides.{eqb_tells}
use Rattle.std.proofs.lemmas.Int.{ints}
use Rattle.std.proofs.lemmas.Nat.{pow-add}
use Rattle.lexical_num.specs.Digit.{digit_char}
use Rattle.lexical_num.specs.Format.{standard}
use Rattle.lexical_num.specs.Sign.{sign_of}
use Rattle.lexical_write_integer.specs.LoopTurns.{digits_after_first}
use Rattle.lexical_write_integer.specs.Sequence.{IsExactly, Then}
use Rattle.lexical_write_integer.proofs.OfDigits.Count.DigitCounts.{digit_count-pos, digit_count-split}
use Rattle.lexical_write_integer.proofs.OfTexts.Orders.{equal_from_IsText}
use Rattle.lexical_write_integer.proofs.OfTexts.ReadTexts.{are_read}
use Rattle.lexical_parts.specs.Fixed.{IsFixed}
use Rattle.lexical_write_integer.specs.InCommon.{HaveInCommon}
use Rattle.lexical_parts.specs.Scaled.{AreEqualScaled}
use Rattle.lexical_parts.specs.Scientific.{IsScientific, exponent_of_first}
use Rattle.lexical_parts.specs.Sequence.{IsDecimal}
use Rattle.lexical_parts.proofs.OfNumbers.FixedBytes.{fixed_has_no}
use Rattle.lexical_parts.proofs.OfNumbers.FixedReads.{fixed_read}
use Rattle.lexical_parts.proofs.OfLayout.Splits.{same_split}

-- ---- no `e` before the exponent

-- the character of a decimal digit is not `e`
digit_is_no_e : (d : ℕ) → d < 10 → digit_char d ≢ 101
digit_is_no_e d small same = grind arith

-- the text of a number of units, with its sign and its decimal point, has no `e`
fixed_has_no_e : (d : ℕ) (x : ℤ) (text : List ℕ) → IsFixed d x text → All (λ b. b ≢ 101) text
fixed_has_no_e = fixed_has_no 101 digit_is_no_e (λ e. grind arith) (λ e. grind arith)

-- two numbers of units, with c and with d decimals, are equal as integers if they have a text in common
equal_fixed : (c d : ℕ) (x y : ℤ) → HaveInCommon (IsFixed c x) (IsFixed d y) → x ≡ y
equal_fixed c d x y both =
    let first = are_read 10 x false (omega arith) _ (λ text is. fixed_read c x text is) in
    let second = are_read 10 y false (omega arith) _ (λ text is. fixed_read d y text is) in
    sym (first.signed _ (record { original = both.text; is = both.is; whole = refl })).value
    ∙ (second.signed _ (record { original = both.text; is = both.also; whole = refl })).value

-- ---- the units, with the sign of the number

record Units (x : ℤ) (units : ℕ) : Type 0 where
  signed : ℤ
  abs : unsigned_abs signed ≡ units
  sign : sign_of signed false ≡ sign_of x false

-- if the magnitude of x is `units` times a power of ten, there is a number whose magnitude is `units` and whose sign is
-- written as that of x
with_sign : (x : ℤ) (units count : ℕ) → unsigned_abs x ≡ units * 10 ^ count → Units x units
with_sign (pos n) units count whole = record { signed = pos units; abs = refl; sign = refl }
with_sign (negsuc n) zero count whole = absurd (omega (arith, whole))
with_sign (negsuc n) (suc units) count whole = record { signed = negsuc units; abs = refl; sign = refl }

-- the exponent of the first digit of n times 10 ^ e, if n is not 0, is e plus the number of digits of n after its first
exponent_is : (n : ℕ) (e : ℤ) → 1 ≤ n → exponent_of_first n e ≡ e +ℤ pos (digits_after_first 10 n)
exponent_is n e some = grind (arith, eqb_tells)

-- the exponent of the first digit, by the units
first_of_units : (units count : ℕ) (e : ℤ) → exponent_of_first (units * 10 ^ count) e
    ≡ exponent_of_first units (e +ℤ pos count)
first_of_units zero count e = grind arith
first_of_units (suc units) count e =
    let power = one-le-pow count 10 (omega arith) in
    let same : suc units * 10 ^ count / 10 ^ count ≡ suc units = mul-div_cancel (suc units) power in
    let more : 10 ^ count ≤ suc units * 10 ^ count =
    omega (arith, mul-le-mul_right {m = 1} {n = suc units} (10 ^ count) (omega arith)) in
    let counted = rw same at (digit_count-split 10 count (suc units * 10 ^ count) (omega arith) more) in
    let sum : e +ℤ pos (digits_after_first 10 (suc units * 10 ^ count))
    ≡ e +ℤ pos count +ℤ pos (digits_after_first 10 (suc units)) =
    omega (arith, ints, counted, digit_count-pos 10 (suc units)) in
    exponent_is (suc units * 10 ^ count) e (omega (arith, power, more)) ∙ sum
    ∙ sym (exponent_is (suc units) (e +ℤ pos count) (omega arith))

-- a text of some kind and then a number in decimal is also a text of that kind and then any equal number in decimal
decimal_as : {A : List ℕ → Type 0} (E F : ℤ) (text : List ℕ) → E ≡ F → Then A (IsDecimal E) text
    → Then A (IsDecimal F) text
decimal_as E F text same is = rw same at is

record Parts (x e : ℤ) (text : List ℕ) : Type 0 where
  units : ℤ
  count : ℕ
  decimals : ℕ
  sign : sign_of units false ≡ sign_of x false
  whole : unsigned_abs x ≡ unsigned_abs units * 10 ^ count
  is : Then (IsFixed decimals units) (Then (IsExactly (101 ∷ []))
      (IsDecimal (exponent_of_first (unsigned_abs units) (e +ℤ pos count)))) text

-- a scientific text of x times 10 ^ e is a number of units with its point, `e` and the exponent of the first digit of
-- the units times 10 ^ (e + count); the units have the sign of x, and times 10 ^ count its magnitude
parts : (x e : ℤ) (text : List ℕ) → IsScientific x e text → Parts x e text
parts x e text is =
    let s = is.is_second in
    let w = with_sign x s.units s.zeros s.whole in
    let last : exponent_of_first (unsigned_abs x) e ≡ exponent_of_first (unsigned_abs w.signed) (e +ℤ pos s.zeros) =
    ap (λ n. exponent_of_first n e) s.whole ∙ first_of_units s.units s.zeros e
    ∙ ap (λ n. exponent_of_first n (e +ℤ pos s.zeros)) (sym w.abs) in
    record {
      units = w.signed;
      count = s.zeros;
      decimals = digits_after_first 10 s.units;
      sign = w.sign;
      whole = s.whole ∙ ap (λ n. n * 10 ^ s.zeros) (sym w.abs);
      is = record {
        first = is.first ++ s.is.first;
        second = s.is.second;
        is_first = record {
          first = is.first;
          second = s.is.first;
          is_first = is.is_first ∙ sym w.sign;
          is_second = rw w.abs s.is.is_first;
          whole = refl;
        };
        is_second = decimal_as _ _ s.is.second last s.is.is_second;
        whole = is.whole ∙ ap (λ l. is.first ++ l) s.is.whole ∙ sym (append_assoc is.first s.is.first s.is.second);
      };
    }

-- ---- equal numbers

-- if x and y are both negative or both not, and the magnitudes of x times m and of y times k are equal, x * m is y * k
product : (x y : ℤ) (m k : ℕ) → sign_of x false ≡ sign_of y false → unsigned_abs x * m ≡ unsigned_abs y * k
    → x *ℤ pos m ≡ y *ℤ pos k
product (pos a) (pos b) m k sign same = pos-*ℤ-pos a m ∙ ap pos same ∙ sym (pos-*ℤ-pos b k)
product (negsuc a) (negsuc b) m k sign same = negsuc-*ℤ-pos a m ∙ ap (λ n. neg_ℤ (pos n)) same ∙ sym (negsuc-*ℤ-pos b k)
product (pos a) (negsuc b) m k sign same = absurd (cc)
product (negsuc a) (pos b) m k sign same = absurd (cc)

-- if u times 10 ^ (e + a) and u times 10 ^ (f + b) have the same exponent of the first digit, and e + k is f + m, then
-- u * 10 ^ a * 10 ^ m is u * 10 ^ b * 10 ^ k
scaled : (u a b k m : ℕ) (e f : ℤ) → exponent_of_first u (e +ℤ pos a) ≡ exponent_of_first u (f +ℤ pos b)
    → e +ℤ pos k ≡ f +ℤ pos m → u * 10 ^ a * 10 ^ m ≡ u * 10 ^ b * 10 ^ k
scaled zero a b k m e f last same = omega arith
scaled (suc u) a b k m e f last same =
    let c = digits_after_first 10 (suc u) in
    let here : e +ℤ pos a +ℤ pos c ≡ f +ℤ pos b +ℤ pos c =
    sym (exponent_is (suc u) (e +ℤ pos a) (omega arith)) ∙ last ∙ exponent_is (suc u) (f +ℤ pos b) (omega arith) in
    let sum : a + m ≡ b + k = omega (arith, ints, here, same) in
    let left : suc u * 10 ^ a * 10 ^ m ≡ suc u * 10 ^ (a + m) = rw (pow-add 10 a m) (grind arith) in
    let right : suc u * 10 ^ b * 10 ^ k ≡ suc u * 10 ^ (b + k) = rw (pow-add 10 b k) (grind arith) in
    left ∙ ap (λ n. suc u * 10 ^ n) sum ∙ sym right

-- if x times 10 ^ e and y times 10 ^ f have a scientific text in common, x * 10 ^ m is y * 10 ^ k for all k and m such
-- that e + k is f + m
equal_products : (x e y f : ℤ) → HaveInCommon (IsScientific x e) (IsScientific y f) → (k m : ℕ)
    → e +ℤ pos k ≡ f +ℤ pos m
    → x *ℤ pos (10 ^ m) ≡ y *ℤ pos (10 ^ k)
equal_products x e y f both k m same =
    let p = parts x e both.text both.is in
    let q = parts y f both.text both.also in
    let halves = same_split 101 (fixed_has_no_e p.decimals p.units) (fixed_has_no_e q.decimals q.units)
    both.text p.is q.is in
    let units = equal_fixed p.decimals q.decimals p.units q.units halves.0 in
    let last = equal_from_IsText _ _ standard halves.1.text halves.1.is halves.1.also in
    let here : exponent_of_first (unsigned_abs p.units) (e +ℤ pos p.count)
    ≡ exponent_of_first (unsigned_abs p.units) (f +ℤ pos q.count) =
    last ∙ ap (λ z. exponent_of_first (unsigned_abs z) (f +ℤ pos q.count)) (sym units) in
    let magnitudes : unsigned_abs x * 10 ^ m ≡ unsigned_abs y * 10 ^ k =
    ap (λ n. n * 10 ^ m) p.whole ∙ scaled (unsigned_abs p.units) p.count q.count k m e f here same
    ∙ ap (λ z. unsigned_abs z * 10 ^ q.count * 10 ^ k) units ∙ ap (λ n. n * 10 ^ k) (sym q.whole) in
    product x y (10 ^ m) (10 ^ k) (sym p.sign ∙ ap (λ z. sign_of z false) units ∙ q.sign) magnitudes

-- if two numbers times powers of ten have a text in common, they are equal
pub equal_scientifics : (x e y f : ℤ) → HaveInCommon (IsScientific x e) (IsScientific y f) → AreEqualScaled x e y f
equal_scientifics x e y f both = record { scaled = equal_products x e y f both }
