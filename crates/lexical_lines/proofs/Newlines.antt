-- The first newline among the bytes of a word.
use Rattle.std.proofs.Common.{◌≡◌, ◌≢◌, ◌⊎◌, ℕ, zero, suc, ◌+◌, ◌-◌, ◌*◌, ◌/◌, ◌%◌, ◌^◌, ◌<◌, eqb, List, [], ◌∷◌}
use Rattle.std.proofs.Common.{length, ltb}
use Rattle.std.proofs.Common.{◌||◌, pow_pos, bit_and, bit_xor, w64, refl, ap, ap₂, subst, ◌∙◌, inl, inr, arith}
use Rattle.std.proofs.lemmas.Bool.{cases_lt}
use Rattle.std.proofs.lemmas.List.Elements.{All-nil, All-cons, All-head, All-tail}
use Rattle.std.proofs.lemmas.Nat.{and_block, and_le_l, and_le_r, xor_block, xor_of_8, mod-mul-add, pow-add}
use Rattle.std.proofs.lemmas.Nat.{from_le_bytes-to_le_bytes_8}
use Rattle.std.proofs.lemmas.Nat.Bits.{bit_at_cat_low, bit_at_cat_high, bit_at_lowest, bit_at-zero}
use Rattle.std.proofs.lemmas.Nat.Bits.{bit_at-trailing_zeros}
use Rattle.std.proofs.Math.Nat.{mod-lt, div-add-mod', sub_self}
use Rattle.std.specs.Int.{bit_at, byte_at, bytes_low_first, trailing_zeros, to_le_bytes}
use Rattle.std.specs.List.{All}
use Rattle.lexical_write_integer.proofs.OfDigits.Radix.BinaryWords.{all_below-at}
use Rattle.lexical_lines.specs.Lines.{IsFirstNewline, NoNewline}

-- the number whose bytes, the lowest first, are these
abbrev pub word : List ℕ → ℕ
word [] = 0
word (byte ∷ bytes) = word bytes * 2 ^ 8 + byte

-- the word of `k` such bytes
abbrev pub each : ℕ → ℕ → ℕ
each byte zero = 0
each byte (suc k) = each byte k * 2 ^ 8 + byte

-- the smallest number that does not fit in `k` bytes
abbrev pub word_limit : ℕ → ℕ
word_limit zero = 1
word_limit (suc k) = word_limit k * 2 ^ 8

-- what is found in a word of `k` bytes in which each newline is 0
abbrev pub found : ℕ → ℕ → ℕ
found k left = bit_and (bit_and ((left + (word_limit k - each 1 k)) % word_limit k) (word_limit k - 1 - left)) (each 128 k)

-- bit 7 of the first newline is the lowest that is set
pub record Marks (bytes : List ℕ) (marked : ℕ) : Type 0 where
  pub index : ℕ
  pub first : IsFirstNewline bytes index
  pub above : ℕ
  pub bits : marked ≡ (above * 2 + 1) * 2 ^ (8 * index + 7)

-- the word of k bytes that are each 1 is below the smallest number that does not fit in k bytes
ones_small : (k : ℕ) → each 1 k < word_limit k
ones_small zero = omega arith
ones_small (suc k) = omega (arith, ones_small k)

-- a byte whose exclusive or with 10 is 0 is a newline
is_newline : (b : ℕ) → b < 256 → bit_xor b 10 ≡ 0 → b ≡ 10
is_newline b small none = grind (arith, all_below-at (λ k. eqb k 10 || ltb 0 (bit_xor k 10)) 256 b refl small, none)

-- if a byte c is not 0, bit 7 is set in at most one of c - 1 and 255 - c
unmarked : (c : ℕ) → c < 256 → 0 < c → bit_and (bit_and (c - 1) (255 - c)) 128 ≡ 0
unmarked c small some =
    grind (arith, all_below-at (λ k. eqb k 0 || eqb (bit_and (bit_and (k - 1) (255 - k)) 128) 0) 256 c refl small)

-- the remainder of a number by m * 256, if m is not 0, has the lowest byte of the number, and above it the remainder by
-- m of what is above that byte in the number
split-mod : (a r m : ℕ) → 0 < m → r < 256 → (a * 2 ^ 8 + r) % (m * 2 ^ 8) ≡ a % m * 2 ^ 8 + r
split-mod a r m some small =
    let whole : a * 2 ^ 8 + r ≡ a / m * (m * 2 ^ 8) + (a % m * 2 ^ 8 + r) = omega (arith, div-add-mod' a m) in
    ap (λ x. x % (m * 2 ^ 8)) whole ∙ mod-mul-add (a / m) (m * 2 ^ 8) (a % m * 2 ^ 8 + r) (omega (arith, mod-lt a some))

abbrev difference : ℕ → ℕ → ℕ
difference k left = left + (word_limit k - each 1 k)

-- a word with one more byte: what is found in it is what is found in the byte and in the rest, if `less` is the last
-- byte of the difference, and `more` is the rest of it
found-split : (k left c more less : ℕ) → left < word_limit k → c < 256 → less < 256
    → difference (suc k) (left * 2 ^ 8 + c) ≡ more * 2 ^ 8 + less
    → found (suc k) (left * 2 ^ 8 + c)
    ≡ bit_and (bit_and (more % word_limit k) (word_limit k - 1 - left)) (each 128 k) * 2 ^ 8
    + bit_and (bit_and less (255 - c)) 128
found-split k left c more less fits small short is =
    let ones = ones_small k in
    let rest = ap (λ x. x % word_limit (suc k)) is ∙ split-mod more less (word_limit k) (omega arith) short in
    let not_left : word_limit (suc k) - 1 - (left * 2 ^ 8 + c) ≡ (word_limit k - 1 - left) * 2 ^ 8 + (255 - c) =
    omega arith in
    let both = ap₂ bit_and rest not_left ∙ and_block 8 (more % word_limit k) (word_limit k - 1 - left) less (255 - c)
    (omega arith) (omega arith) in
    ap (λ x. bit_and x (each 128 (suc k))) both
    ∙ and_block 8 (bit_and (more % word_limit k) (word_limit k - 1 - left)) (each 128 k) (bit_and less (255 - c)) 128
    (omega (arith, and_le_l less (255 - c))) (omega arith)

-- if the lowest byte of a word of k + 1 bytes is not 0, what the search for bytes 0 finds in the word is what it finds
-- in the k other bytes, times 256
found-other : (k left c : ℕ) → left < word_limit k → c < 256 → 0 < c
    → found (suc k) (left * 2 ^ 8 + c) ≡ found k left * 2 ^ 8
found-other k left c fits small some =
    let ones = ones_small k in
    found-split k left c (difference k left) (c - 1) fits small (omega arith) (omega arith)
    ∙ omega (arith, unmarked c small some)

-- if the lowest byte of a word of k + 1 bytes is 0, bit 7 is the lowest bit that is set in what the search for bytes 0
-- finds in the word
found-newline : (k left : ℕ) → left < word_limit k → (above : ℕ)
    × (found (suc k) (left * 2 ^ 8 + 0) ≡ (above * 2 + 1) * 2 ^ 7)
found-newline k left fits =
    let ones = ones_small k in
    let above = bit_and (bit_and ((difference k left - 1) % word_limit k) (word_limit k - 1 - left)) (each 128 k) in (
      above,
      found-split k left 0 (difference k left - 1) 255 fits (omega arith) (omega arith) (omega arith)
          ∙ omega arith,
    )

-- the bytes, of which each newline becomes 0
abbrev pub without : List ℕ → ℕ
without bytes = bit_xor (word bytes) (each 10 (length bytes))

-- all numbers of the list are bytes
abbrev pub AreBytes : List ℕ → Type 0
AreBytes = All (λ b. b < 256)

-- with a byte before others, as the lowest of their word, the exclusive or of the word with 10 in each byte is that of
-- the others times 256, plus the exclusive or of the byte with 10
without-split : (b : ℕ) (bytes : List ℕ) → b < 256 → without (b ∷ bytes) ≡ without bytes * 2 ^ 8 + bit_xor b 10
without-split b bytes small = xor_block 8 (word bytes) (each 10 (length bytes)) b 10 (omega arith) (omega arith)

-- the exclusive or of the word of k bytes with 10 in each byte is a number that fits in k bytes
without_small : (bytes : List ℕ) → AreBytes bytes → without bytes < word_limit (length bytes)
without_small [] h = omega arith
without_small (b ∷ bytes) h =
    let small = All-head (λ b. b < 256) b bytes h in
    omega (
      arith,
      without-split b bytes small,
      xor_of_8 b 10 (omega arith) (omega arith),
      without_small bytes (All-tail (λ b. b < 256) b bytes h),
    )

-- the next byte comes before
Marks-next : (b : ℕ) (bytes : List ℕ) (marked : ℕ) → b ≢ 10 → Marks bytes marked → Marks (b ∷ bytes) (marked * 2 ^ 8)
Marks-next b bytes marked differs m =
    let more : 8 * suc m.index + 7 ≡ 8 * m.index + 7 + 8 = omega arith in
    record {
      index = suc m.index;
      first = grind (arith, m.first, All-cons);
      above = m.above;
      bits = rw (more, pow-add 2 (8 * m.index + 7) 8) (omega (arith, m.bits));
    }

-- either there is no newline and nothing is found, or what is found marks the first newline
pub newlines : (bytes : List ℕ) → AreBytes bytes
    → (NoNewline bytes × (found (length bytes) (without bytes) ≡ 0))
    ⊎ Marks bytes (found (length bytes) (without bytes))
newlines [] h = inl (All-nil (λ byte. byte ≢ 10), refl)
newlines (b ∷ bytes) h =
    let small = All-head (λ b. b < 256) b bytes h in
    let others = All-tail (λ b. b < 256) b bytes h in
    let fits = without_small bytes others in
    let c = bit_xor b 10 in
    let k = length bytes in
    rw (without-split b bytes small) (elim (cases_lt 0 c) [
      | inl some ↦
          let differs : b ≢ 10 = λ is. absurd (omega (arith, subst (λ x. 0 < bit_xor x 10) is some)) in
          rw (found-other k (without bytes) c fits (xor_of_8 b 10 (omega arith) (omega arith)) some)
          (elim (newlines bytes others) [
            | inl none ↦ inl (All-cons (λ byte. byte ≢ 10) b bytes differs none.0, omega (arith, none.1))
            | inr marks ↦ inr (Marks-next b bytes (found k (without bytes)) differs marks)
          ])
      | inr none ↦
          let is : c ≡ 0 = omega arith in
          let newline : b ≡ 10 = is_newline b small is in
          let marked = found-newline k (without bytes) fits in
          rw is (inr (record {
            index = 0;
            first = record { within = omega arith; newline = newline; before = All-nil (λ byte. byte ≢ 10) };
            above = marked.0;
            bits = marked.1;
          }))
    ])

-- the position of the lowest bit that is set, divided by 8, is the index of the first newline
pub Marks-lowest : (bytes : List ℕ) (marked : ℕ) → Marks bytes marked → 0 < marked → marked < 2 ^ 64
    → IsFirstNewline bytes (trailing_zeros w64 marked / 8)
Marks-lowest bytes marked m some fits =
    let n = 8 * m.index + 7 in
    let odd = m.above * 2 + 1 in
    let lowest = bit_at-trailing_zeros w64 marked some fits in
    let t = trailing_zeros w64 marked in
    let is : marked ≡ odd * 2 ^ n + 0 = omega (arith, m.bits) in
    let set : bit_at marked n ≡ 1 =
    ap (λ x. bit_at x n) is ∙ bit_at_cat_high odd n 0 n (pow_pos n) (omega arith) ∙ ap (bit_at odd) (sub_self n)
    ∙ bit_at_lowest odd ∙ omega arith in
    let below : (i : ℕ) → i < n → bit_at marked i ≡ 0 =
    λ i less. ap (λ x. bit_at x i) is ∙ bit_at_cat_low odd n 0 i less ∙ bit_at-zero i in
    let same : t ≡ n = grind (arith, below t, lowest.1, lowest.2 n, set) in
    let there : t / 8 ≡ m.index = omega arith in
    rw there m.first

-- the bytes of a number, however many of them and from any index on, are each below 256
bytes_small : (i k n : ℕ) → AreBytes (bytes_low_first i k n)
bytes_small i zero n = All-nil (λ b. b < 256)
bytes_small i (suc k) n = All-cons (λ b. b < 256) (byte_at i n) (bytes_low_first (suc i) k n) (grind arith)
    (bytes_small (suc i) k n)

-- either no byte of a number of 64 bits is a newline and the search for newlines finds 0, or the lowest bit that is set
-- in what it finds is bit 7 of the first newline, counted from the lowest byte
in_word : (n : ℕ) → n < 2 ^ 64
    → (NoNewline (to_le_bytes w64 n) × (found 8 (bit_xor n (each 10 8)) ≡ 0))
    ⊎ Marks (to_le_bytes w64 n) (found 8 (bit_xor n (each 10 8)))
in_word n fits =
    let is : word (to_le_bytes w64 n) ≡ n = omega (arith, from_le_bytes-to_le_bytes_8 n fits) in
    rw is at (newlines (to_le_bytes w64 n) (bytes_small 0 8 n))

-- if nothing is found in a word of 64 bits, none of its bytes is a newline
pub none_found : (n : ℕ) → n < 2 ^ 64 → found 8 (bit_xor n (each 10 8)) ≡ 0 → NoNewline (to_le_bytes w64 n)
none_found n fits zeros = grind (arith, in_word n fits, pow_pos)

-- if a word has a newline, the position of the lowest bit that is found, divided by 8, is the index of the first
-- newline
pub first_found : (n : ℕ) → n < 2 ^ 64 → found 8 (bit_xor n (each 10 8)) ≢ 0
    → IsFirstNewline (to_le_bytes w64 n) (trailing_zeros w64 (found 8 (bit_xor n (each 10 8))) / 8)
first_found n fits some = elim (in_word n fits) [
  | inl none ↦ absurd (some none.1)
  | inr m ↦
      let marked = found 8 (bit_xor n (each 10 8)) in
      let small : marked < 2 ^ 64 = grind (arith, and_le_r) in
      Marks-lowest (to_le_bytes w64 n) marked m (omega (arith, some)) small
]
