-- Texts in lowercase: those of radix 10 and below have no letters, and the letters of the others differ in a bit.
use Rattle.std.proofs.Common.{◌≡◌, None, Bool, ℕ, ◌+◌, ◌%◌, ◌<◌, ◌≤◌, List, [], ◌∷◌, map, refl, arith, ◌-◌, ◌*◌, ◌/◌, ℤ}
use Rattle.std.specs.List.{All}
use Rattle.std.specs.Char.{to_ascii_lowercase}
use Rattle.std.proofs.lemmas.Bool.Decides.{nat_tests}
use Rattle.std.proofs.lemmas.List.Elements.{All-head, All-tail, All-map, All-append}
use Rattle.std.proofs.lemmas.List.{map-append}
use Rattle.std.proofs.lemmas.Str.Ascii.{lowercase_is}
use Rattle.std.proofs.lemmas.Nat.Bits.{and_pow}
use Rattle.std.proofs.lemmas.Bool.{cases_lt}
use Rattle.std.specs.Int.Bits.{bit_or, or_add_and}
use Rattle.lexical_num.specs.Digit.{digit_char}
use Rattle.lexical_num.specs.Format.{Format}
use Rattle.lexical_num.specs.Sign.{sign_of}
use Rattle.lexical_write_integer.specs.Text.{IsText}

-- every byte precedes the letters
abbrev Unlettered : List ℕ → Type 0
Unlettered = All (λ b. b < 65)

-- the character of a digit below 10 is below 65, the code of the letter `A`
digit_char-unlettered : (d : ℕ) → d < 10 → digit_char d < 65
digit_char-unlettered d small = grind (arith, nat_tests)

-- the characters of digits in a radix of at most 10 are all below 65, the code of the letter `A`
Unlettered-digit_chars : (r : ℕ) (digits : List ℕ) → r ≤ 10 → All (λ d. d < r) digits
    → Unlettered (map digit_char digits)
Unlettered-digit_chars r digits few below =
    All-map (λ b. b < 65) digit_char digits (λ k d less. digit_char-unlettered _ (omega (arith, below k d less)))

-- a sign has no letters
pub Unlettered-sign : (x : ℤ) (required : Bool) → Unlettered (sign_of x required)
Unlettered-sign x required = grind arith

-- a text of such bytes is the same in lowercase
pub lowercase-unlettered : (text : List ℕ) → Unlettered text → map to_ascii_lowercase text ≡ text
lowercase-unlettered [] all = refl
lowercase-unlettered (b ∷ text) all =
    grind (
      arith,
      (lowercase_is b).1 (All-head (λ b. b < 65) b text all),
      lowercase-unlettered text (All-tail (λ b. b < 65) b text all),
    )

-- a text without groups in radix 10 or below is the same in lowercase
pub lowercase-IsText : (x : ℤ) (format : Format) (text : List ℕ) → format.mantissa_radix ≤ 10
    → format.digit_grouping ≡ None →
    IsText x format text → text ≡ map to_ascii_lowercase text
lowercase-IsText x format text few none is =
    grind (arith, Unlettered-digit_chars, All-append, Unlettered-sign, lowercase-unlettered)

-- ---- texts whose letters are changed by setting a bit

-- to set bit 5 of a number is to add 32 to it, or nothing if the bit is already set
or_32 : (c : ℕ) → bit_or c 32 ≡ c + 32 - c / 32 % 2 * 32
or_32 c = omega (arith, or_add_and c 32, and_pow c 5)

-- to set the bit twice is to set it once
pub lowered_twice : (c : ℕ) → bit_or (bit_or c 32) 32 ≡ bit_or c 32
lowered_twice c = omega (arith, or_32 c, or_32 (bit_or c 32))

-- to set bit 5 of the character of a digit below 36 is to change the character to lowercase
digit_char-lowered : (d : ℕ) → d < 36 → bit_or (digit_char d) 32 ≡ to_ascii_lowercase (digit_char d)
digit_char-lowered d small = grind (arith, cases_lt, nat_tests, or_32, lowercase_is)

-- the bit is all that distinguishes the letters of the text from lowercase letters
abbrev Lowered : List ℕ → Type 0
Lowered text = map (λ byte. bit_or byte 32) text ≡ map to_ascii_lowercase text

-- to set bit 5 of each character of digits below 36 is to change the characters to lowercase
Lowered-digit_chars : (digits : List ℕ) → All (λ d. d < 36) digits → Lowered (map digit_char digits)
Lowered-digit_chars [] below = refl
Lowered-digit_chars (d ∷ digits) below =
    rw (
      digit_char-lowered d (All-head (λ k. k < 36) d digits below),
      Lowered-digit_chars digits (All-tail (λ k. k < 36) d digits below),
    ) refl

-- to set bit 5 of each byte of the sign of a number is to change the sign to lowercase
Lowered-sign : (x : ℤ) (required : Bool) → Lowered (sign_of x required)
Lowered-sign x required = grind arith

-- the letters of a text without groups are changed to lowercase by setting the bit
pub lowered-IsText : (x : ℤ) (format : Format) (text : List ℕ) → format.mantissa_radix ≤ 36
    → format.digit_grouping ≡ None →
    IsText x format text → map (λ byte. bit_or byte 32) text ≡ map to_ascii_lowercase text
lowered-IsText x format text few none is = grind (arith, map-append, Lowered-sign, Lowered-digit_chars)
