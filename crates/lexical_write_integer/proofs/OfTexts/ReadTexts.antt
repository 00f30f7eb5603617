-- Texts that std reads as the number that they write: digits of either case, after any sign.
use Rattle.std.proofs.Common.{◌≡◌, ℕ, ◌+◌, ◌*◌, ◌^◌, ◌<◌, ◌≤◌, List, [], ◌∷◌, ◌++◌, length, map, refl, ap, ◌∙◌}
use Rattle.std.proofs.Common.{arith, Bool, true, false, ℤ, pos, negsuc}
use Rattle.std.specs.Prelude.{unsigned_abs, None}
use Rattle.std.specs.List.{All}
use Rattle.std.specs.Char.{digit_value, to_ascii_lowercase}
use Rattle.std.specs.Str.Parse.{AllDigits, IsNumeral as IsReadable, digits_value, digits_value_after}
use Rattle.std.specs.Str.Parse.{without_leading_plus, starts_with_minus}
use Rattle.std.proofs.Math.Nat.{pow-zero, pow-suc}
use Rattle.std.proofs.lemmas.Bool.Decides.{nat_tests}
use Rattle.std.proofs.lemmas.List.{length-map, map-append}
use Rattle.std.proofs.lemmas.List.Elements.{All-head, All-tail}
use Rattle.lexical_num.specs.Digit.{digit_char}
use Rattle.lexical_num.specs.Format.{Format}
use Rattle.lexical_num.specs.Sign.{sign_of}
use Rattle.lexical_write_integer.specs.Numeral.{value_of}
use Rattle.lexical_write_integer.specs.Padded.{IsPadded}
use Rattle.lexical_write_integer.specs.Groups.{grouped}
use Rattle.lexical_write_integer.specs.Read.{AreReadAs, IsReadAsSigned, IsReadAsUnsigned}
use Rattle.lexical_write_integer.specs.Text.{IsDigits, IsText}

-- digits, which std reads as the number
pub record IsRead (r n : ℕ) (digits : List ℕ) : Type 0 where
  pub numeral : IsReadable r digits
  pub value : digits_value r digits ≡ n

-- std reads the character of a digit below 36 as that digit
digit_value-digit_char : (d : ℕ) → d < 36 → digit_value (digit_char d) ≡ d
digit_value-digit_char d small = grind arith

-- std reads the characters of digits as digits in their radix, if that is at most 36
all_digits : (r : ℕ) (ds : List ℕ) → r ≤ 36 → All (λ d. d < r) ds → AllDigits r (map digit_char ds)
all_digits r [] few below = tt
all_digits r (d ∷ ds) few below =
    let small = All-head (λ d. d < r) d ds below in
    (rw (digit_value-digit_char d (omega arith)) small, all_digits r ds few (All-tail (λ d. d < r) d ds below))

-- the number that std reads from n and the characters of digits after it is n times the radix to the power of their
-- number, plus the value of the digits, if the radix is at most 36
value_after : (r n : ℕ) (ds : List ℕ) → r ≤ 36 → All (λ d. d < r) ds
    → digits_value_after r n (map digit_char ds) ≡ n * r ^ length ds + value_of r ds
value_after r n [] few below = rw pow-zero (omega arith)
value_after r n (d ∷ ds) few below =
    let small = All-head (λ d. d < r) d ds below in
    let same = digit_value-digit_char d (omega arith) in
    let rest = value_after r (n * r + d) ds few (All-tail (λ d. d < r) d ds below) in
    let more : (n * r + d) * r ^ length ds ≡ n * (r ^ length ds * r) + d * r ^ length ds = grind arith in
    ap (λ k. digits_value_after r (n * r + k) (map digit_char ds)) same ∙ rest
    ∙ rw (pow-suc r (length ds)) (omega (arith, more))

-- std reads the characters of digits, at least one, as the value of the digits, if the radix is at most 36
block_read : (r n : ℕ) (ds text : List ℕ) → r ≤ 36 → 0 < length ds → All (λ d. d < r) ds → value_of r ds ≡ n
    → text ≡ map digit_char ds → IsRead r n text
block_read r n ds text few some below value characters = rw characters (record {
  numeral = (omega (arith, length-map ds digit_char, some), all_digits r ds few below);
  value = value_after r 0 ds few below ∙ omega (arith, value);
})

-- the digits of a number are read as the number, in a radix of at most 36
pub digits_read : (r n : ℕ) (text : List ℕ) → r ≤ 36 → IsDigits r n text → IsRead r n text
digits_read r n text few is =
    let numeral = is.numeral.numeral in
    block_read r n is.digits text few numeral.nonempty numeral.below_radix is.numeral.value is.characters

-- digits with leading zeros are read as the number, if there is a digit at all
pub padded_read : (r width n : ℕ) (text : List ℕ) → r ≤ 36 → 1 ≤ width → IsPadded r width n text → IsRead r n text
padded_read r width n text few some is =
    block_read r n is.digits text few (omega (arith, some, is.block.counted))
    is.block.below_radix is.block.value is.characters

-- the value of a sign is 36, so a digit is none
no_plus : (r : ℕ) (digits : List ℕ) → r ≤ 36 → AllDigits r digits → without_leading_plus digits ≡ digits
no_plus r [] few all = refl
no_plus r (d ∷ ds) few all = grind arith

-- a text that std reads as digits in a radix of at most 36 does not begin with `-`
no_minus : (r : ℕ) (digits : List ℕ) → r ≤ 36 → AllDigits r digits → starts_with_minus digits ≡ false
no_minus r [] few all = refl
no_minus r (d ∷ ds) few all = grind arith

-- digits that std reads as n in a radix of at most 36 are read as n at an unsigned type with the sign of n before them,
-- which is `+` if one is required and otherwise nothing
read_unsigned : (r n : ℕ) (required : Bool) (digits : List ℕ) → r ≤ 36 → IsRead r n digits
    → IsReadAsUnsigned r n (sign_of (pos n) required ++ digits)
read_unsigned r n true digits few read = record { numeral = read.numeral; value = read.value }
read_unsigned r n false digits few read =
    let same = no_plus r digits few read.numeral.1 in
    record { numeral = rw same read.numeral; value = rw same read.value }

-- digits that std reads as the magnitude of x in a radix of at most 36 are read as x at a signed type with the sign of
-- x before them, whether or not a `+` is required
read_signed : (r : ℕ) (x : ℤ) (required : Bool) (digits : List ℕ) → r ≤ 36 → IsRead r (unsigned_abs x) digits
    → IsReadAsSigned r x (sign_of x required ++ digits)
read_signed r (negsuc n) required digits few read = record { numeral = read.numeral; value = rw read.value refl }
read_signed r (pos n) true digits few read = record { numeral = read.numeral; value = ap pos read.value }
read_signed r (pos n) false digits few read =
    let plus = no_plus r digits few read.numeral.1 in
    let minus = no_minus r digits few read.numeral.1 in
    record { numeral = rw (minus, plus) read.numeral; value = rw (minus, plus) (ap pos read.value) }

-- the text of a number without groups is its sign and its digits
pub bare : (x : ℤ) (f : Format) (text : List ℕ) → f.digit_grouping ≡ None → (is : IsText x f text)
    → text ≡ sign_of x f.required_mantissa_sign ++ is.digits
bare x f text none is = is.whole ∙ ap (λ g. sign_of x f.required_mantissa_sign ++ grouped g is.digits) none

-- ---- in lowercase no value of a digit changes, and no sign

-- the value of a character as a digit is the same in lowercase
lower_digit : (c : ℕ) → digit_value (to_ascii_lowercase c) ≡ digit_value c
lower_digit c = grind (arith, nat_tests)

-- a text that std reads as digits in a radix is read as such digits in lowercase too
lower_digits : (r : ℕ) (digits : List ℕ) → AllDigits r digits → AllDigits r (map to_ascii_lowercase digits)
lower_digits r [] all = tt
lower_digits r (d ∷ ds) all = (rw (lower_digit d) all.0, lower_digits r ds all.1)

-- the number that std reads from n and a text of digits after it is the same if the text is in lowercase
lower_value : (r n : ℕ) (digits : List ℕ)
    → digits_value_after r n (map to_ascii_lowercase digits) ≡ digits_value_after r n digits
lower_value r n [] = refl
lower_value r n (d ∷ ds) =
    ap (λ k. digits_value_after r (n * r + k) (map to_ascii_lowercase ds)) (lower_digit d)
    ∙ lower_value r (n * r + digit_value d) ds

-- the sign of a number is the same in lowercase
sign_kept : (x : ℤ) (required : Bool) → map to_ascii_lowercase (sign_of x required) ≡ sign_of x required
sign_kept x required = grind arith

-- a sign, and digits that std reads as the absolute value
pub record IsSigned (r : ℕ) (x : ℤ) (required : Bool) (text : List ℕ) : Type 0 where
  pub digits : List ℕ
  pub whole : text ≡ sign_of x required ++ digits
  pub read : IsRead r (unsigned_abs x) digits

module _ (r : ℕ) (x : ℤ) (required : Bool) (few : r ≤ 36) where
  in_lowercase : (text : List ℕ) → IsSigned r x required text → IsSigned r x required (map to_ascii_lowercase text)
  in_lowercase text is = record {
    digits = map to_ascii_lowercase is.digits;
    whole = ap (map to_ascii_lowercase) is.whole ∙ map-append to_ascii_lowercase (sign_of x required) is.digits
        ∙ ap (λ sign. sign ++ map to_ascii_lowercase is.digits) (sign_kept x required);
    read = record {
      numeral = (
        omega (arith, length-map is.digits to_ascii_lowercase, is.read.numeral.0),
        lower_digits r is.digits is.read.numeral.1,
      );
      value = lower_value r 0 is.digits ∙ is.read.value;
    };
  }

  signed : (text : List ℕ) → IsSigned r x required text → IsReadAsSigned r x text
  signed text is = rw is.whole (read_signed r x required is.digits few is.read)

  unsigned : (n : ℕ) → x ≡ pos n → (text : List ℕ) → IsSigned r x required text → IsReadAsUnsigned r n text
  unsigned n same text is =
      rw (is.whole ∙ ap (λ z. sign_of z required ++ is.digits) same)
      (read_unsigned r n required is.digits few (rw (ap unsigned_abs same) at is.read))

  -- if each text of a kind is a sign and digits of the number, std reads the kind as the number, in lowercase too
  pub are_read : (P : List ℕ → Type 0) → ((text : List ℕ) → P text → IsSigned r x required text) → AreReadAs r x P
  are_read P each = record {
    signed = λ text is. signed text (each text is);
    unsigned = λ n same text is. unsigned n same text (each text is);
    lowercase = λ text is. rw is.whole (signed _ (in_lowercase _ (each is.original is.is)));
    unsigned_lowercase = λ n same text is. rw is.whole (unsigned n same _ (in_lowercase _ (each is.original is.is)));
  }
