-- The size of a type in a format is enough for the required length of each number of the type.
use Rattle.std.specs.Prelude.{ℕ, ◌+◌, ◌*◌, ◌/◌, ◌≤◌, ℤ, ◌≤ℤ◌, length, unsigned_abs, Option, Bool, if◌then◌else◌}
use Rattle.std.proofs.Common.{arith}
use Rattle.lexical_num.specs.BitWidth.{IsBitWidth}
use Rattle.lexical_num.specs.Format.{Format, IsRadix, grouped_length}
use Rattle.lexical_num.specs.Range.{greatest_of, least_of}
use Rattle.lexical_num.specs.Sign.{sign_of}
use Rattle.lexical_num.specs.Size.{AreSizes, size_in}
use Rattle.lexical_num.proofs.Magnitudes.{magnitude-below}
use Rattle.lexical_write_integer.specs.DigitCount.{digit_count-le_bits}
use Rattle.lexical_write_integer.specs.Text.{need}

-- a larger number has no smaller quotient
pub div-monotone : (m n k : ℕ) → m ≤ n → m / k ≤ n / k
div-monotone m n k less = grind arith

-- each further digit takes at least one further byte
pub grouped_length-more : (grouping : Option (ℕ × ℕ)) (m n more : ℕ) → m + more ≤ n
    → grouped_length grouping m + more ≤ grouped_length grouping n
grouped_length-more grouping m n more less = grind arith

-- there is at most one separator between two adjacent digits
pub grouped_length-le : (grouping : Option (ℕ × ℕ)) (m n : ℕ) → m ≤ n → 1 ≤ n → grouped_length grouping m + 1 ≤ 2 * n
grouped_length-le grouping m n few some = grind arith

-- ---- the required length

-- a sign is one byte if it is required, and otherwise only a type with negative numbers has one
sign-le : (bits : ℕ) (is_signed : Bool) (x : ℤ) (required : Bool) → least_of bits is_signed ≤ℤ x
    → length (sign_of x required) ≤ (if is_signed then 1 else 0) + (if required then 1 else 0)
sign-le bits is_signed x required low = grind arith

-- a sign is at most one byte
pub sign-le_one : (x : ℤ) (required : Bool) → length (sign_of x required) ≤ 1
sign-le_one x required = grind arith

-- for a signed type the decimal size has one byte for the sign
pub need-le_size : {bits width size size_decimal : ℕ} (is_signed : Bool) → IsBitWidth bits
    → AreSizes 128 bits is_signed width size size_decimal → (x : ℤ) (format : Format) → IsRadix format.mantissa_radix
    → least_of bits is_signed ≤ℤ x → x ≤ℤ greatest_of bits is_signed
    → need x width format ≤ size_in size size_decimal format
need-le_size {bits} {width} {size} {size_decimal} is_signed of_type sizes x format radix low high =
    let fits = magnitude-below is_signed of_type x low high in
    let some : 1 ≤ bits = omega (arith, sizes.of_bits, sizes.some) in
    let wide : width + (if is_signed then 1 else 0) ≤ size_decimal = omega (arith, sizes.of_width) in
    let more = grouped_length-more format.digit_grouping width size_decimal (if is_signed then 1 else 0) wide in
    let few = digit_count-le_bits format.mantissa_radix (unsigned_abs x) bits radix.at_least_two some fits in
    grind arith

-- the size in a format is at most the room, even with groups of one digit and a required sign
pub size_in-le : {room bits width size size_decimal : ℕ} {is_signed : Bool}
    → AreSizes room bits is_signed width size size_decimal
    → (format : Format) → size_in size size_decimal format ≤ room
size_in-le {room} {bits} {width} {size} {size_decimal = n} sizes format = grind arith
