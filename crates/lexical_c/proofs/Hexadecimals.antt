-- Digits in radix 16 in lowercase, which are written from the last, and the sign before them.
use Rattle.std.proofs.Common.{◌≡◌, ℤ, unsigned_abs, false, ℕ, suc, ◌+◌, ◌-◌, ◌/◌, ◌%◌, ◌<◌, ◌≤◌, List, [], ◌∷◌, ◌++◌}
use Rattle.std.proofs.Common.{length, take, drop, set, map}
use Rattle.std.proofs.Common.{append_assoc, refl, sym, ap, ◌∙◌, arith}
use Rattle.std.specs.Char.{to_ascii_lowercase}
use Rattle.std.proofs.lemmas.List.{append-nil, drop_all, drop_at, drop-set-lt, length-drop, length-set}
use Rattle.std.proofs.lemmas.List.{length-take, length-take-le, map-append, take-append-drop}
use Rattle.std.proofs.lemmas.Slice.{take-put_mid_below}
use Rattle.lexical_num.specs.Digit.{digit_char}
use Rattle.lexical_num.specs.Format.{Format, IsValid, standard}
use Rattle.lexical_num.specs.Sign.{sign_of}
use Rattle.lexical_write_integer.specs.Buffer.{Writes}
use Rattle.lexical_write_integer.specs.Computed.{padded_text}
use Rattle.lexical_write_integer.specs.DigitCount.{digit_count}
use Rattle.lexical_write_integer.specs.Lowercase.{IsLowercase}
use Rattle.lexical_write_integer.specs.Text.{IsDigits, IsText}
use Rattle.lexical_write_integer.proofs.Buffers.Prefixes.{Writes-after, Writes-over}
use Rattle.lexical_write_integer.proofs.OfDigits.Count.DigitCounts.{digit_count-fits}
use Rattle.lexical_write_integer.proofs.OfDigits.Numerals.{IsNumeralOf-block}
use Rattle.lexical_write_integer.proofs.OfDigits.PaddedDigits.{padded_computed}
use Rattle.lexical_c.proofs.Letters.{Unlettered-sign, lowercase-unlettered}
use Rattle.lexical_c.proofs.PlainTexts.{plain_valid, take-sign}
use borrow.Rule.Slice.PartMut.{mid_of, put_mid}

-- the character of the last digit of a number
abbrev pub last_of : ℕ → ℕ
last_of n = to_ascii_lowercase (digit_char (n % 16))

-- this many last digits of a number
abbrev pub last_digits : ℕ → ℕ → List ℕ
last_digits count n = map to_ascii_lowercase (padded_text 16 count n)

-- the last k + 2 digits of n in radix 16, in lowercase, are the last k digits of n / 16 / 16, and then the last digit
-- of n / 16 and that of n
last_digits-two_more : (k n : ℕ)
    → last_digits (suc (suc k)) n ≡ last_digits k (n / 16 / 16) ++ last_of (n / 16) ∷ last_of n ∷ []
last_digits-two_more k n = rw (map-append, map-append, append_assoc) refl

-- two bytes that are written one after the other
pair_of : (x y : ℕ) (pair : List ℕ) → length pair ≡ 2 → set (set pair 0 y) 1 x ≡ y ∷ x ∷ []
pair_of x y (a ∷ b ∷ []) two = refl
pair_of x y _ two = absurd (omega (arith, two))

-- the text after two bytes are written to its end
abbrev ending_in : ℕ → ℕ → List ℕ → List ℕ
ending_in y x text =
    let start = length text - 2 in
    put_mid start (length text - start) text (set (set (mid_of start (length text - start) text) 0 y) 1 x)

-- two bytes written to the end of a longer text leave all others before them
pub length-before_two : (text : List ℕ) (y x : ℕ) → 2 < length text
    → length (take (length text - 2) (ending_in y x text)) ≡ length text - 2
length-before_two text y x more =
    let start = length text - 2 in
    ap length (take-put_mid_below start (length text - start) text _ start (omega arith) (omega arith))
    ∙ length-take-le start text (omega arith)

-- if y and then x are written over the last two bytes of a text of more than two, its last two bytes are y and x
written_two : (text : List ℕ) (y x : ℕ) → 2 < length text → drop (length text - 2) (ending_in y x text) ≡ y ∷ x ∷ []
written_two text y x more =
    let start = length text - 2 in
    let part = mid_of start (length text - start) text in
    let long : length part ≡ 2 = omega (
      arith,
      length-take (length text - start) (drop start text),
      length-drop start text,
    ) in
    let none : drop (length text - start) (drop start text) ≡ [] =
    drop_all (length text - start) (drop start text) (omega (arith, length-drop start text)) in
    drop_at (take start text) _ start (length-take-le start text (omega arith)) ∙ rw (pair_of x y part long, none) refl

-- the last two digits after the others
pub last_two_digits : {x y : ℕ} {before : List ℕ} (number : ℕ) (text : List ℕ) → 2 < length text
    → y ≡ last_of (number / 16) → x ≡ last_of number →
    before ≡ last_digits (length (take (length text - 2) (ending_in y x text))) (number / 256) →
    before ++ drop (length text - 2) (ending_in y x text) ≡ last_digits (length text) number
last_two_digits {x} {y} {before} number text more is_y is_x is =
    let place : length text ≡ suc (suc (length text - 2)) = omega arith in
    let hundreds : number / 256 ≡ number / 16 / 16 = omega arith in
    let split : last_digits (length text) number ≡ last_digits (length text - 2) (number / 256) ++ y ∷ x ∷ [] =
    ap (λ count. last_digits count number) place ∙ last_digits-two_more (length text - 2) number
    ∙ rw (hundreds, is_y, is_x) refl in
    ap (λ bytes. before ++ bytes) (written_two text y x more)
    ∙ ap (λ bytes. bytes ++ y ∷ x ∷ []) (is ∙ ap (λ count. last_digits count (number / 256))
    (length-before_two text y x more)) ∙ sym split

-- the first two digits; if there is only one, it is written over a byte of the same index
pub first_digits : {x y : ℕ} (number : ℕ) (text : List ℕ) → 1 ≤ length text → length text ≤ 2
    → y ≡ last_of (number / 16) → x ≡ last_of number →
    set (set text 0 y) (length (set text 0 y) - 1) x ≡ last_digits (length text) number
first_digits number (a ∷ []) some few is_y is_x = rw is_x refl
first_digits number (a ∷ b ∷ []) some few is_y is_x = rw (is_y, is_x) refl
first_digits number _ some few is_y is_x = absurd (omega (arith, some, few))

-- as many digits as the number has are its digits
all_digits : (n count : ℕ) → count ≡ digit_count 16 n → IsLowercase (IsDigits 16 n) (last_digits count n)
all_digits n count is =
    let padded = (padded_computed 16 count n (padded_text 16 count n) (omega arith)
    (rw is (digit_count-fits 16 n (omega arith)))).1 refl in
    grind (arith, IsNumeralOf-block)

-- the standard format in radix 16
abbrev pub hexadecimal : Format
hexadecimal = record standard { mantissa_radix = 16 }

-- the format of radix 16 is valid
pub hexadecimal_valid : IsValid hexadecimal
hexadecimal_valid = plain_valid 16 record { at_least_two = omega arith; at_most_36 = omega arith }

-- the digits after the sign are the text in lowercase; without a sign they are written over the byte for it
pub with_sign : {sign end : ℕ} (x : ℤ) (before part : List ℕ) → sign ≡ length (sign_of x false)
    → end ≡ sign + digit_count 16 (unsigned_abs x)
    → sign < end → end ≤ length before → part ≡ last_digits (length (take (end - sign) (drop sign (set before 0 45))))
    (unsigned_abs x)
    → length part ≡ length (take (end - sign) (drop sign (set before 0 45)))
    → Writes (IsLowercase (IsText x hexadecimal)) before (put_mid sign (end - sign) (set before 0 45) part) end
with_sign {sign} {end} x before part is is_end some room digits long =
    let signed = set before 0 45 in
    let same : length signed ≡ length before = length-set before 0 45 in
    let rest = take (end - sign) (drop sign signed) in
    let rest_long : length rest ≡ end - sign =
    length-take-le (end - sign) (drop sign signed) (omega (arith, length-drop sign signed, same)) in
    let none : drop (length part) rest ≡ [] = drop_all (length part) rest (omega (arith, long)) in
    let all : sign + (end - sign) ≡ end = omega arith in
    Writes-over same (drop-set-lt 1 before 0 45 (omega arith)) (omega arith)
    (rw all at
    (Writes-after {IsAfter = IsLowercase (IsDigits 16 (unsigned_abs x))} {IsWhole = IsLowercase (IsText x hexadecimal)}
    (sign_of x false)
    signed signed part sign (end - sign) (end - sign) is
    record {
      fits = omega (arith, is, same);
      written = rw (← is, ← take-sign x before is (omega arith))
          (sym (take-append-drop sign signed));
    }
    (λ text digits. record {
      original = sign_of x false ++ digits.original;
      is = record { digits = digits.original; magnitude = digits.is; whole = refl };
      whole = rw (map-append, lowercase-unlettered (sign_of x false) (Unlettered-sign x false), ← digits.whole) refl;
    })
    record {
      text = part;
      is = rw digits (all_digits (unsigned_abs x) (length rest) (omega (arith, rest_long, is_end)));
      front = record { fits = omega (arith, long); written = rw (none, append-nil part) refl };
      count = sym (long ∙ rest_long);
    }))
