-- The binary digits of a number, as the bytes of a word.
use Rattle.std.proofs.Common.{◌≡◌, ℕ, zero, suc, ◌+◌, ◌-◌, ◌*◌, ◌/◌, ◌%◌, ◌^◌, ◌<◌, ◌≤◌, Bool, true, false, ◌&&◌, eqb}
use Rattle.std.proofs.Common.{List, [], ◌∷◌, length, map, bit_and}
use Rattle.std.proofs.Common.{bit_or, w64, refl, sym, ap, subst, ◌∙◌, inl, inr, arith}
use Rattle.std.proofs.lemmas.Bool.{cases_lt, and_parts, eqb-true}
use Rattle.std.proofs.lemmas.List.Elements.{All-nil}
use Rattle.std.proofs.Math.Nat.{pow-zero, mod-one, mod-lt, mod-eq_of_lt}
use Rattle.std.specs.Int.{to_le_bytes}
use Rattle.lexical_num.specs.Digit.{digit_char}
use Rattle.lexical_write_integer.specs.Buffer.{WritesBlock}
use Rattle.lexical_write_integer.specs.Numeral.{IsBlockOf}
use Rattle.lexical_write_integer.proofs.Buffers.Blocks.{mod-pow_split, WritesBlock-copied}
use Rattle.lexical_write_integer.proofs.OfDigits.Numerals.{IsBlockOf-one, IsBlockOf-append}
use borrow.Rule.Slice.PartMut.{put_mid}

-- the last `count` digits
abbrev pub bits : ℕ → ℕ → List ℕ
bits zero n = []
bits (suc count) n = n / 2 ^ count % 2 ∷ bits count n

-- the last `count` binary digits of a number are a block of `count` digits whose value is its remainder by 2 ^ count
IsBlockOf-bits : (count n : ℕ) → IsBlockOf 2 count (n % 2 ^ count) (bits count n)
IsBlockOf-bits zero n = record {
  counted = refl;
  below_radix = All-nil (λ d. d < 2);
  value = sym (ap (λ p. n % p) (pow-zero 2) ∙ mod-one n);
}
IsBlockOf-bits (suc count) n =
    let first = IsBlockOf-one 2 (n / 2 ^ count % 2) (mod-lt (n / 2 ^ count) (omega arith)) in
    let order : 1 + count ≡ suc count = omega arith in
    subst (λ k. IsBlockOf 2 k (n % 2 ^ k) (n / 2 ^ count % 2 ∷ bits count n)) order
    (rw (mod-pow_split 2 n 1 count (omega arith)) (IsBlockOf-append first (IsBlockOf-bits count n)))

-- their characters, copied to index `at`
pub WritesBlock-bits : (count n at : ℕ) (before characters : List ℕ)
    → n < 2 ^ count → characters ≡ map digit_char (bits count n) → at + count ≤ length before
    → WritesBlock 2 count n at before (put_mid at (at + count - at) before characters)
WritesBlock-bits count n at_index before characters short are room =
    WritesBlock-copied at_index (rw (mod-eq_of_lt short) at (IsBlockOf-bits count n)) are room

-- ---- the words, which are compared for each number

abbrev same : List ℕ → List ℕ → Bool
same [] [] = true
same [] (y ∷ ys) = false
same (x ∷ xs) [] = false
same (x ∷ xs) (y ∷ ys) = eqb x y && same xs ys

-- all numbers below this one pass the test
abbrev pub all_below : (ℕ → Bool) → ℕ → Bool
all_below test zero = true
all_below test (suc n) = test n && all_below test n

-- if the comparison of two lists, element by element, says that they are the same, they are equal
same-true : (xs ys : List ℕ) → same xs ys ≡ true → xs ≡ ys
same-true [] [] h = refl
same-true [] (y ∷ ys) h = absurd (grind (arith, h))
same-true (x ∷ xs) [] h = absurd (grind (arith, h))
same-true (x ∷ xs) (y ∷ ys) h =
    let parts = and_parts (eqb x y) (same xs ys) h in
    rw (eqb-true x y parts.0, same-true xs ys parts.1) refl

-- if all numbers below a bound pass a test, each of them does
pub all_below-at : (test : ℕ → Bool) (n k : ℕ) → all_below test n ≡ true → k < n → test k ≡ true
all_below-at test zero k h less = absurd (omega arith)
all_below-at test (suc n) k h less =
    let parts = and_parts (test n) (all_below test n) h in
    elim (cases_lt k n) [
      | inl below ↦ all_below-at test n k parts.1 below
      | inr last ↦ let at : n ≡ k = omega arith in subst (λ x. test x ≡ true) at parts.0
    ]

-- the word whose bytes are the characters of the eight binary digits of a byte
abbrev pub word : ℕ → ℕ
word b = bit_or (bit_and ((bit_and (b * 72340172838076673) 72624976668147840 + 9187201950435737471) / 2 ^ 7)
    72340172838076673) 3472328296227680304

-- its bytes, the lowest first, are the characters of the digits, the highest first
pub word-bits : (b : ℕ) → b < 256 → to_le_bytes w64 (word b) ≡ map digit_char (bits 8 b)
word-bits b short =
    let test = λ (k : ℕ). same (to_le_bytes w64 (word k)) (map digit_char (bits 8 k)) in
    same-true (to_le_bytes w64 (word b)) (map digit_char (bits 8 b)) (all_below-at test 256 b refl short)
