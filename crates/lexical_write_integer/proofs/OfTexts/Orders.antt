-- Texts and their numbers: a text belongs to one number, and the order of texts is that of their numbers.
use Rattle.std.proofs.lemmas.Grind.{common_steps}
use Rattle.std.proofs.Common.{◌≡◌, Option, ℕ, suc, ◌+◌, ◌*◌, ◌^◌, ◌<◌, ◌≤◌, List, [], ◌∷◌, ◌++◌, length, map, ◌↔◌, inl}
use Rattle.std.proofs.Common.{inr, refl, sym, ap, ◌∙◌, ℤ, pos, negsuc}
use Rattle.std.proofs.Common.{◌<ℤ◌, ◌≤ℤ◌, length-append, arith}
use Rattle.std.specs.Cmp.{nat_cmp_is, ranks}
use Rattle.std.specs.Cmp.Derive.Mapped.{lex_map}
use Rattle.std.specs.Cmp.Lexicographic.{slice_cmp}
use Rattle.std.specs.List.{All}
use Rattle.std.specs.Ordering.{nat_cmp, ordering_then}
use Rattle.std.specs.declared.cmp.Ordering.TheVariants.{Less, Greater}
use Rattle.std.proofs.Math.Nat.{mul-le-mul_right}
use Rattle.std.proofs.lemmas.Bool.{cases_lt, cases_order}
use Rattle.std.proofs.lemmas.Cmp.{by_ranked, nat_cmp_total, tied_itself}
use Rattle.std.proofs.lemmas.Int.{ints}
use Rattle.std.proofs.lemmas.List.{append_cancel_left, length-map}
use Rattle.std.proofs.lemmas.List.Elements.{All-tail}
use Rattle.lexical_num.specs.Digit.{digit_char}
use Rattle.lexical_num.specs.Format.{Format}
use Rattle.lexical_num.specs.Sign.{sign_of}
use Rattle.lexical_write_integer.specs.Groups.{mark_before, in_groups, grouped}
use Rattle.lexical_write_integer.specs.Numeral.{value_of}
use Rattle.lexical_write_integer.specs.Padded.{IsPadded}
use Rattle.lexical_write_integer.specs.Order.{ComesBefore, IsEarlier}
use Rattle.lexical_write_integer.specs.Text.{IsDigits, IsText}
use Rattle.lexical_write_integer.proofs.OfDigits.Count.DigitCounts.{digit_count-monotone}
use Rattle.lexical_write_integer.proofs.OfTexts.Grouping.Digits.{grouped-injective, length-grouped-lt}
use Rattle.lexical_write_integer.proofs.OfTexts.Grouping.Digits.{length-grouped_same}
use Rattle.lexical_write_integer.proofs.OfDigits.Numerals.{length-IsDigits}
use Rattle.lexical_write_integer.proofs.OfDigits.DigitValues.{value_of-lt}

-- ---- a text has one number

-- two digits that have the same character are equal
digit_char-injective : (c d : ℕ) → digit_char c ≡ digit_char d → c ≡ d
digit_char-injective c d same = grind (arith, same)

-- two lists of digits that have the same characters are equal
map-digit_char_injective : (xs ys : List ℕ) → map digit_char xs ≡ map digit_char ys → xs ≡ ys
map-digit_char_injective [] [] same = refl
map-digit_char_injective [] (y ∷ ys) same = cc
map-digit_char_injective (x ∷ xs) [] same = cc
map-digit_char_injective (x ∷ xs) (y ∷ ys) same =
    let first : x ≡ y = digit_char-injective x y (cc) in
    let rest : xs ≡ ys = map-digit_char_injective xs ys (cc) in
    cc

-- a text is the digits of one number only
pub equal_from_IsDigits : (r m n : ℕ) (text : List ℕ) → IsDigits r m text → IsDigits r n text → m ≡ n
equal_from_IsDigits r m n text p q =
    sym p.numeral.value ∙ ap (value_of r) (map-digit_char_injective p.digits q.digits (sym p.characters ∙ q.characters))
    ∙ q.numeral.value

-- a negative number and one that is not negative have no text in common
IsText-one_sign : (m n : ℕ) (format : Format) (text : List ℕ) → IsText (negsuc m) format text
    → IsText (pos n) format text → ⊥
IsText-one_sign m n format text p q = grind (arith, common_steps)

-- a text is in one format the text of one number only
pub equal_from_IsText : (m n : ℤ) (format : Format) (text : List ℕ) → IsText m format text
    → IsText n format text → m ≡ n
equal_from_IsText (pos m) (pos n) format text p q =
    let grouping = format.digit_grouping in
    let same =
    grouped-injective grouping p.digits q.digits
    (append_cancel_left (sign_of (pos m) format.required_mantissa_sign) (grouped grouping p.digits)
    (grouped grouping q.digits) (sym p.whole ∙ q.whole)) in
    ap pos (equal_from_IsDigits format.mantissa_radix m n q.digits (rw same at p.magnitude) q.magnitude)
equal_from_IsText (negsuc m) (negsuc n) format text p q =
    let grouping = format.digit_grouping in
    let after_sign = append_cancel_left (45 ∷ []) (grouped grouping p.digits) (grouped grouping q.digits)
    (sym p.whole ∙ q.whole) in
    let same = grouped-injective grouping p.digits q.digits after_sign in
    let abs : suc m ≡ suc n = equal_from_IsDigits format.mantissa_radix (suc m) (suc n) q.digits
    (rw same at p.magnitude) q.magnitude in
    ap negsuc (omega arith)
equal_from_IsText (negsuc m) (pos n) format text p q = absurd (IsText-one_sign m n format text p q)
equal_from_IsText (pos m) (negsuc n) format text p q = absurd (IsText-one_sign n m format text q p)

-- ---- the order of bytes, which for lists of the same length is that of their values

-- the comparison of a number with a greater one is `Less`
lt-nat_cmp : (m n : ℕ) → m < n → nat_cmp m n ≡ Less
lt-nat_cmp m n less = sym (nat_cmp_is m n Less less)

-- if the comparison of two numbers is `Less`, the first is smaller than the second
nat_cmp-Less : (m n : ℕ) → nat_cmp m n ≡ Less → m < n
nat_cmp-Less m n less = rw less at (ranks m n)

-- a function that preserves `<` preserves the result of a comparison
nat_cmp-monotone : (f : ℕ → ℕ) → ((m n : ℕ) → m < n → f m < f n) → (m n : ℕ) → nat_cmp (f m) (f n) ≡ nat_cmp m n
nat_cmp-monotone f more m n = grind (arith, by_ranked)

-- the characters of two digits compare as the digits do
nat_cmp-digit_char : (c d : ℕ) → nat_cmp (digit_char c) (digit_char d) ≡ nat_cmp c d
nat_cmp-digit_char = nat_cmp-monotone digit_char (λ c d less. grind arith)

-- the characters of two lists of digits compare in lexicographic order as the digits do
slice_cmp-digit_char : (xs ys : List ℕ) → slice_cmp nat_cmp (map digit_char xs) (map digit_char ys)
    ≡ slice_cmp nat_cmp xs ys
slice_cmp-digit_char xs ys = lex_map digit_char nat_cmp xs ys ∙ (λ i. slice_cmp (λ c d. nat_cmp-digit_char c d i) xs ys)

-- the digit of the higher weight decides the comparison
place-less : (w c d a b : ℕ) → a < w → c < d → c * w + a < d * w + b
place-less w c d a b small less = omega (arith, mul-le-mul_right {m = suc c} {n = d} w (omega arith))

-- if a and b are below w, c * w + a and d * w + b compare as c and d do, or as a and b do if c is d
nat_cmp-place : (w c d a b : ℕ) → a < w → b < w → ordering_then (nat_cmp c d) (nat_cmp a b)
    ≡ nat_cmp (c * w + a) (d * w + b)
nat_cmp-place w c d a b small small' =
    by_ranked (c < d) (c ≡ d) (d < c) (nat_cmp c d) (ranks c d)
    (λ e less. rw e (sym (lt-nat_cmp (c * w + a) (d * w + b) (place-less w c d a b small less))))
    (λ e same. rw (e, same) (sym (nat_cmp-monotone (λ n. d * w + n) (λ m n less. omega arith) a b)))
    (λ e more. rw e (nat_cmp_is (c * w + a) (d * w + b) Greater (place-less w d c b a small' more)))

-- digits of the same length are in the order of their values
slice_cmp-value_of : (r : ℕ) (xs ys : List ℕ)
    → length xs ≡ length ys → All (λ d. d < r) xs → All (λ d. d < r) ys
    → slice_cmp nat_cmp xs ys ≡ nat_cmp (value_of r xs) (value_of r ys)
slice_cmp-value_of r [] [] long p q = refl
slice_cmp-value_of r [] (y ∷ ys) long p q = absurd (omega arith)
slice_cmp-value_of r (x ∷ xs) [] long p q = absurd (omega arith)
slice_cmp-value_of r (x ∷ xs) (y ∷ ys) long p q =
    let long' : length xs ≡ length ys = omega arith in
    let p' = All-tail (λ d. d < r) x xs p in
    let q' = All-tail (λ d. d < r) y ys q in
    ap (ordering_then (nat_cmp x y)) (slice_cmp-value_of r xs ys long' p' q')
    ∙ nat_cmp-place (r ^ length xs) x y (value_of r xs) (value_of r ys) (value_of-lt r xs p')
    (rw long' (value_of-lt r ys q'))
    ∙ ap (λ n. nat_cmp (x * r ^ length xs + value_of r xs) (y * r ^ n + value_of r ys)) long'

-- texts of the same length are in the order of their numbers
slice_cmp-IsDigits : (r m n : ℕ) (s t : List ℕ) → length s ≡ length t → IsDigits r m s → IsDigits r n t
    → slice_cmp nat_cmp s t ≡ nat_cmp m n
slice_cmp-IsDigits r m n s t long p q = grind (arith, length-map, slice_cmp-value_of, slice_cmp-digit_char)

-- ---- numbers with leading zeros, in one width

-- a text with leading zeros is that of one number only
pub equal_from_IsPadded : (r width m n : ℕ) (text : List ℕ) → IsPadded r width m text → IsPadded r width n text → m ≡ n
equal_from_IsPadded r width m n text p q =
    sym p.block.value ∙ ap (value_of r) (map-digit_char_injective p.digits q.digits (sym p.characters ∙ q.characters))
    ∙ q.block.value

-- the texts of two numbers compare as the numbers do
pub slice_cmp-IsPadded : (r width m n : ℕ) (s t : List ℕ) → IsPadded r width m s → IsPadded r width n t
    → slice_cmp nat_cmp s t ≡ nat_cmp m n
slice_cmp-IsPadded r width m n s t p q = grind (arith, slice_cmp-value_of, slice_cmp-digit_char)

-- one number is smaller if and only if its text is earlier
pub IsEarlier-IsPadded : (r width m n : ℕ) (s t : List ℕ) → IsPadded r width m s → IsPadded r width n t → (m < n)
    ↔ IsEarlier s t
IsEarlier-IsPadded r width m n s t p q =
    let compared = slice_cmp-IsPadded r width m n s t p q in
    (λ less. compared ∙ lt-nat_cmp m n less, λ earlier. nat_cmp-Less m n (sym compared ∙ earlier))

-- ---- the order of texts

-- two texts with the same prefix before them compare in lexicographic order as they do without it
slice_cmp-append : (front s t : List ℕ) → slice_cmp nat_cmp (front ++ s) (front ++ t) ≡ slice_cmp nat_cmp s t
slice_cmp-append [] s t = refl
slice_cmp-append (c ∷ front) s t = rw (tied_itself nat_cmp_total c) (slice_cmp-append front s t)

-- a number is smaller than another if and only if its text of digits is shorter, or as long and earlier in
-- lexicographic order, in a radix of at least 2
ComesBefore-IsDigits : (r m n : ℕ) (s t : List ℕ) → 2 ≤ r → IsDigits r m s → IsDigits r n t → (m < n) ↔ ComesBefore s t
ComesBefore-IsDigits r m n s t two p q =
    let s-count = length-IsDigits r m s two p in
    let t-count = length-IsDigits r n t two q in (
      λ less. elim (cases_lt (length s) (length t)) [
        | inl shorter ↦ inl shorter
        | inr longer ↦
            let long : length s ≡ length t = omega (arith, digit_count-monotone r m n two (omega arith)) in
            inr (long, slice_cmp-IsDigits r m n s t long p q ∙ lt-nat_cmp m n less)
      ],
      λ before. elim before [
        | inl shorter ↦ elim (cases_lt m n) [
          | inl less ↦ less
          | inr more ↦ absurd (omega (arith, digit_count-monotone r n m two more))
        ]
        | inr earlier ↦ nat_cmp-Less m n (sym (slice_cmp-IsDigits r m n s t earlier.0 p q) ∙ earlier.1)
      ],
    )

-- a common prefix does not change the order of two texts
ComesBefore-append : (front s t : List ℕ) → ComesBefore s t ↔ ComesBefore (front ++ s) (front ++ t)
ComesBefore-append front s t = grind (arith, slice_cmp-append, length-append)

-- groups do not change the order of digits of the same length, since their separators are at the same positions
slice_cmp-in_groups : (grouping : ℕ × ℕ) (s t : List ℕ)
    → length s ≡ length t → slice_cmp nat_cmp (in_groups grouping s) (in_groups grouping t) ≡ slice_cmp nat_cmp s t
slice_cmp-in_groups grouping [] [] long = refl
slice_cmp-in_groups grouping [] (c ∷ t) long = absurd (omega arith)
slice_cmp-in_groups grouping (c ∷ s) [] long = absurd (omega arith)
slice_cmp-in_groups grouping (c ∷ []) (d ∷ []) long = refl
slice_cmp-in_groups grouping (c ∷ []) (d ∷ next ∷ t) long = absurd (omega arith)
slice_cmp-in_groups grouping (c ∷ next ∷ s) (d ∷ []) long = absurd (omega arith)
slice_cmp-in_groups grouping (c ∷ next ∷ s) (d ∷ other ∷ t) long =
    let right : length (other ∷ t) ≡ length (next ∷ s) = omega arith in
    let mark = mark_before grouping (length (next ∷ s)) in
    ap (ordering_then (nat_cmp c d))
    (ap (λ n. slice_cmp nat_cmp (mark ++ in_groups grouping (next ∷ s))
    (mark_before grouping n ++ in_groups grouping (other ∷ t))) right
    ∙ slice_cmp-append mark (in_groups grouping (next ∷ s)) (in_groups grouping (other ∷ t))
    ∙ slice_cmp-in_groups grouping (next ∷ s) (other ∷ t) (omega arith))

-- two texts of the same length compare in lexicographic order as they do in the groups of a format, if it has any
slice_cmp-grouped : (grouping : Option (ℕ × ℕ)) (s t : List ℕ)
    → length s ≡ length t → slice_cmp nat_cmp (grouped grouping s) (grouped grouping t) ≡ slice_cmp nat_cmp s t
slice_cmp-grouped grouping s t long = grind (arith, slice_cmp-in_groups)

-- a text is shorter than another, or as long and earlier in lexicographic order, if and only if it is so when both are
-- in the groups of a format, if it has any
ComesBefore-grouped : (grouping : Option (ℕ × ℕ)) (s t : List ℕ) → ComesBefore s t
    ↔ ComesBefore (grouped grouping s) (grouped grouping t)
ComesBefore-grouped grouping s t = grind (arith, length-grouped-lt, length-grouped_same, slice_cmp-grouped, cases_order)

-- of numbers that are not negative, one is smaller if and only if its text is shorter, or as long and earlier
pub ComesBefore-IsText : (m n : ℤ) (format : Format) (s t : List ℕ)
    → 2 ≤ format.mantissa_radix → pos 0 ≤ℤ m → pos 0 ≤ℤ n → IsText m format s → IsText n format t → (m <ℤ n)
    ↔ ComesBefore s t
ComesBefore-IsText (pos m) (pos n) format s t two _ _ p q =
    let digits = ComesBefore-IsDigits format.mantissa_radix m n p.digits q.digits two p.magnitude q.magnitude in
    let groups = ComesBefore-grouped format.digit_grouping p.digits q.digits in
    let whole =
    ComesBefore-append (sign_of (pos m) format.required_mantissa_sign) (grouped format.digit_grouping p.digits)
    (grouped format.digit_grouping q.digits) in
    rw (p.whole, q.whole) (
      λ less. whole.0 (groups.0 (digits.0 (omega (arith, ints)))),
      λ before. let less = digits.1 (groups.1 (whole.1 before)) in omega (arith, ints),
    )
ComesBefore-IsText (negsuc m) n format s t two low _ p q = absurd (omega (arith, ints, low))
ComesBefore-IsText (pos m) (negsuc n) format s t two _ low p q = absurd (omega (arith, ints, low))
