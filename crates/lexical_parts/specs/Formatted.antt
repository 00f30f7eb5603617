-- The room of a number in a format.
use Rattle.std.specs.Prelude.{ℕ, zero, suc, ◌+◌, max, length, Bool, unsigned_abs}
use Rattle.lexical_num.specs.Format.{Format, grouped_length}
use Rattle.lexical_num.specs.Range.{greatest_of, least_of}
use Rattle.lexical_num.specs.Sign.{sign_of}
use Rattle.lexical_write_integer.specs.Computed.{digits_text}

-- the number of digits of a number below 2 ^ 64, which computes if the radix is known; if it is not, the case of the
-- radix keeps the digits out of the goals of callers
abbrev pub count_in : ℕ → ℕ → ℕ
count_in zero number = 0
count_in (suc r) number = length (digits_text (suc r) number)

-- the largest magnitude of the numbers of an unsigned or a signed type with this number of bits
abbrev pub largest_magnitude : ℕ → Bool → ℕ
largest_magnitude bits is_signed =
    max (unsigned_abs (least_of bits is_signed)) (unsigned_abs (greatest_of bits is_signed))

-- the length of the longest text of a number of the type in the format: one sign, the digits of the largest magnitude,
-- and the separators between their groups
abbrev pub formatted_room : ℕ → Bool → Format → ℕ
formatted_room bits is_signed format =
    length (sign_of (least_of bits is_signed) format.required_mantissa_sign)
    + grouped_length format.digit_grouping (count_in format.mantissa_radix (largest_magnitude bits is_signed))
