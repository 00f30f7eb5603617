-- The room of a number in a format is enough for each number of the type.
use Rattle.std.proofs.Common.{◌≡◌, ℕ, ◌+◌, ◌-◌, ◌/◌, ◌^◌, ◌<◌, ◌≤◌, max, length, refl, inl, inr, arith, ℤ, ◌≤ℤ◌}
use Rattle.std.proofs.Common.{unsigned_abs}
use Rattle.std.specs.Prelude.{Bool, true, false}
use mir.Val.{bool_byte}
use Rattle.std.proofs.Math.Nat.{pow-le-pow_right}
use Rattle.std.proofs.lemmas.Bool.{cases_lt, cond_both, eqb-true}
use Rattle.std.proofs.lemmas.Int.{ints}
use Rattle.lexical_num.specs.BitWidth.{IsBitWidth}
use Rattle.lexical_num.specs.DecimalWidth.{IsDecimalWidth}
use Rattle.lexical_num.specs.Format.{Format}
use Rattle.lexical_num.specs.Range.{greatest_of, least_of}
use Rattle.lexical_num.specs.Sign.{sign_of}
use Rattle.lexical_write_integer.specs.DigitCount.{digit_count}
use Rattle.lexical_write_integer.proofs.OfTexts.SizeBounds.{grouped_length-more, sign-le_one}
use Rattle.lexical_write_integer.specs.Text.{digits_need, need}
use Rattle.lexical_write_integer.proofs.OfDigits.Count.DigitCounts.{digit_count-fits, digit_count-le_64}
use Rattle.lexical_write_integer.proofs.OfDigits.Count.DigitCounts.{digit_count-monotone}
use Rattle.lexical_write_integer.proofs.OfDigits.Numerals.{length-IsDigits}
use Rattle.lexical_write_integer.proofs.OfTexts.ComputedTexts.{digits_computed}
use Rattle.lexical_parts.specs.Formatted.{count_in, formatted_room, largest_magnitude}

-- ---- the largest magnitude

-- the largest magnitude of a type is below 2 ^ 64
pub largest-small : {bits : ℕ} (is_signed : Bool) → IsBitWidth bits → largest_magnitude bits is_signed < 2 ^ 64
largest-small is_signed is = grind arith

-- the magnitude of a number from `least` to `greatest` is at most the larger of the magnitudes of these two
largest-le : {least greatest : ℤ} (x : ℤ) → least ≤ℤ x → x ≤ℤ greatest
    → unsigned_abs x ≤ max (unsigned_abs least) (unsigned_abs greatest)
largest-le x low high = grind (arith, ints)

-- half of the bits of a signed type, and one more
pub signed-largest : {bits : ℕ} → IsBitWidth bits → (2 ^ 64 - 1) / 2 ^ (64 - bits) / 2 + 1 ≡ largest_magnitude bits true
signed-largest is = grind arith

-- ---- the sign and the digits

-- whether or not a sign is required, the sign of a number is no longer than that of any number that is not greater
sign-le : (least x : ℤ) (required : Bool) → least ≤ℤ x → length (sign_of x required) ≤ length (sign_of least required)
sign-le least x required low = grind arith

-- the smallest number of a signed type has a sign of one byte
pub sign-signed : (bits : ℕ) {is_signed : Bool} (required : Bool) → is_signed ≡ true
    → length (sign_of (least_of bits is_signed) required) ≡ 1
sign-signed bits required signed = rw signed refl

-- that of an unsigned type has one only if a sign is required
pub sign-unsigned : (bits : ℕ) {is_signed : Bool} (required : Bool) → is_signed ≡ false
    → length (sign_of (least_of bits is_signed) required) ≡ bool_byte required
sign-unsigned bits required unsigned = grind arith

-- the computed number of digits of a number below 2 ^ 64 is its digit count
pub count_in-is : (r n : ℕ) → 2 ≤ r → n < 2 ^ 64 → count_in r n ≡ digit_count r n
count_in-is r n two small = grind (arith, length-IsDigits, digits_computed)

-- a number from 10^(width - 1) on has at least `width` decimal digits
width-le : (width n : ℕ) → 1 ≤ width → 10 ^ (width - 1) ≤ n → width ≤ digit_count 10 n
width-le width n some full =
    elim (cases_lt (digit_count 10 n) width) [
      | inl fewer ↦
          let power = pow-le-pow_right {n = 10} (omega arith) {i = digit_count 10 n} {j = width - 1} (omega arith) in
          absurd (omega (arith, power, full, digit_count-fits 10 n (omega arith)))
      | inr enough ↦ enough
    ]

-- the required length for the digits of a number is at most the digit count of any number that is not smaller and has
-- at least as many decimal digits as the decimal width
digits_need-le : (r n width largest : ℕ) → 2 ≤ r → n ≤ largest → 1 ≤ width → 10 ^ (width - 1) ≤ largest
    → digits_need r n width ≤ digit_count r largest
digits_need-le r n width largest two less some full = grind (arith, cond_both, eqb-true, width-le, digit_count-monotone)

-- ---- the room

-- the need of each number of a type is at most the room of the type in the format
pub need-le_room : {bits width : ℕ} (is_signed : Bool) (x : ℤ) (format : Format) → IsBitWidth bits
    → IsDecimalWidth (least_of bits is_signed) (greatest_of bits is_signed) width → 2 ≤ format.mantissa_radix
    → least_of bits is_signed ≤ℤ x → x ≤ℤ greatest_of bits is_signed
    → need x width format ≤ formatted_room bits is_signed format
need-le_room {bits} {width} is_signed x format of_type decimal two low high =
    let largest = largest_magnitude bits is_signed in
    let counted = count_in-is format.mantissa_radix largest two (largest-small is_signed of_type) in
    let digits =
    digits_need-le format.mantissa_radix (unsigned_abs x) width largest two (largest-le x low high) decimal.some
    (omega (arith, decimal.needed)) in
    let more =
    grouped_length-more format.digit_grouping (digits_need format.mantissa_radix (unsigned_abs x) width)
    (count_in format.mantissa_radix largest) 0
    (omega (arith, digits, counted)) in
    omega (arith, more, sign-le (least_of bits is_signed) x format.required_mantissa_sign low)

-- the room of a type in a format is at most 128
pub room-le : {bits : ℕ} (is_signed : Bool) (format : Format) → IsBitWidth bits → 2 ≤ format.mantissa_radix
    → formatted_room bits is_signed format ≤ 128
room-le {bits} is_signed format of_type two = grind (arith, count_in-is, largest-small, digit_count-le_64, sign-le_one)
