-- How many digits a number of a type has.
use Rattle.std.proofs.Common.{◌≡◌, ℕ, zero, suc, ◌-◌, ◌*◌, ◌/◌, ◌^◌, ◌<◌, ◌≤◌, arith, inl, inr, ℤ, ◌≤ℤ◌}
use Rattle.std.proofs.Common.{unsigned_abs, Bool, true, false}
use Rattle.std.proofs.Math.Nat.{pow-le-pow_left, pow-le-pow_right, pow-zero}
use Rattle.std.proofs.lemmas.Bool.{cases_lt}
use Rattle.lexical_num.proofs.Magnitudes.{decimal_width-le_20}
use Rattle.lexical_num.specs.BitWidth.{IsBitWidth, is_8, is_16, is_32, is_64}
use Rattle.lexical_num.specs.DecimalWidth.{IsDecimalWidth}
use Rattle.lexical_num.specs.Range.{greatest_of, least_of}
use Rattle.lexical_num.specs.Size.{AreSizes}
use Rattle.lexical_write_integer.specs.DigitCount.{digit_count, digit_count-le}
use Rattle.lexical_write_integer.proofs.OfDigits.Count.DigitCounts.{digit_count-fits}
use Rattle.lexical_write_integer.proofs.OfDigits.Powers.{pow-pow}

-- a number of a type has at most as many decimal digits as the decimal width of the type
pub few_digits : {width : ℕ} {least greatest x : ℤ} → IsDecimalWidth least greatest width → least ≤ℤ x → x ≤ℤ greatest
    → digit_count 10 (unsigned_abs x) ≤ width
few_digits decimal low high = digit_count-le 10 _ _ decimal.some (decimal.enough _ low high)

-- a number has at most one digit in radix 16 for each four bits of its type
pub hex_digits : (bits n : ℕ) → IsBitWidth bits → n < 2 ^ bits → digit_count 16 n ≤ bits / 4
hex_digits _ n is_8 fits = digit_count-le 16 n 2 (omega arith) fits
hex_digits _ n is_16 fits = digit_count-le 16 n 4 (omega arith) fits
hex_digits _ n is_32 fits = digit_count-le 16 n 8 (omega arith) fits
hex_digits _ n is_64 fits = digit_count-le 16 n 16 (omega arith) fits

-- a number is below 16 to the power of a quarter of its bits
pub fits_full_hex : (bits n : ℕ) → IsBitWidth bits → n < 2 ^ bits → n < 16 ^ (bits / 4)
fits_full_hex _ n is_8 fits = fits
fits_full_hex _ n is_16 fits = fits
fits_full_hex _ n is_32 fits = fits
fits_full_hex _ n is_64 fits = fits

-- a number of at most this many digits is below that power of the radix
pub fits_width : (r n width count : ℕ) → 2 ≤ r → count ≡ digit_count r n → count ≤ width → n < r ^ width
fits_width r n width count two is few =
    let power = pow-le-pow_right {n = r} (omega (arith, two)) {i = digit_count r n} {j = width}
    (omega (arith, is, few)) in
    omega (arith, digit_count-fits r n two, power)

-- a number that is below a power of the radix and has more digits than that power has zeros is 0
pub few_or_none : (r n width : ℕ) → width < digit_count r n → n < r ^ width → n ≡ 0
few_or_none r n zero many fits = omega (arith, fits, pow-zero r)
few_or_none r n (suc width) many fits =
    let few = digit_count-le r n (suc width) (omega arith) fits in
    absurd (omega (arith, few, many))

-- a number that has few enough bits is below a power of the radix, if each digit has room for `bits` of them
pub fits_bits : (r bits n width : ℕ) → 2 ^ bits ≤ r → n < 2 ^ (bits * width) → n < r ^ width
fits_bits r bits n width low few = omega (arith, few, pow-pow 2 bits width, pow-le-pow_left low width)

-- the decimal size of a type, with the `-` of a signed one, is at most 20
pub decimal_size-le_20 : {room bits width size size_decimal : ℕ} (is_signed : Bool) → IsBitWidth bits
    → IsDecimalWidth (least_of bits is_signed) (greatest_of bits is_signed) width
    → AreSizes room bits is_signed width size size_decimal → size_decimal ≤ 20
decimal_size-le_20 false of_type is sizes = omega (arith, sizes.of_width, decimal_width-le_20 false of_type is)
decimal_size-le_20 {width = width} true of_type is sizes =
    elim (cases_lt 19 width) [
      | inr few ↦ omega (arith, sizes.of_width, few)
      | inl more ↦
          let power = pow-le-pow_right {n = 10} (omega arith) {i = 19} {j = width - 1} (omega arith) in
          absurd (omega (arith, power, is.needed, greatest-below of_type))
    ]
  where
    greatest-below : {bits : ℕ} → IsBitWidth bits → unsigned_abs (greatest_of bits true) < 10 ^ 19
    greatest-below is_8 = omega arith
    greatest-below is_16 = omega arith
    greatest-below is_32 = omega arith
    greatest-below is_64 = omega arith
