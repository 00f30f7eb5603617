-- Buffer lengths that are enough for every number of a type.
use Rattle.std.specs.Prelude.{◌≡◌, ℕ, ◌+◌, ◌*◌, ◌≤◌, Bool, if◌then◌else◌, ◌==◌}
use Rattle.lexical_num.specs.Format.{Format, grouped_length}

-- the length for a type with these two sizes: in radix 10 the decimal size, the separators of the groups and one byte
-- for a required sign; in another radix the other size
abbrev pub size_in : ℕ → ℕ → Format → ℕ
size_in formatted_size formatted_size_decimal format =
    if format.mantissa_radix == 10
    then grouped_length format.digit_grouping formatted_size_decimal + (if format.required_mantissa_sign then 1 else 0)
    else formatted_size

-- the two sizes of a type: two bytes for each bit, and in decimal its largest digits and the `-` of a signed type. A
-- buffer of `room` bytes is long enough for both, in decimal even with groups of one digit, whose separators and sign
-- at most double the length
pub record AreSizes (room bits : ℕ) (is_signed : Bool) (decimal_width size size_decimal : ℕ) : Type 0 where
  pub of_bits : size ≡ 2 * bits
  pub of_width : size_decimal ≡ decimal_width + (if is_signed then 1 else 0)
  pub some : 1 ≤ size
  pub fits : size ≤ room
  pub some_decimal : 1 ≤ size_decimal
  pub fits_decimal : 2 * size_decimal ≤ room

-- ---- a proof, which is here since ghost members cite it

pub are_sizes : {room bits decimal_width size size_decimal : ℕ} {is_signed : Bool} → size ≡ 2 * bits
    → size_decimal ≡ decimal_width + (if is_signed then 1 else 0) → 1 ≤ size → size ≤ room → 1 ≤ size_decimal
    → 2 * size_decimal ≤ room → AreSizes room bits is_signed decimal_width size size_decimal
are_sizes bits width some fits some_decimal fits_decimal =
    record {
      of_bits = bits;
      of_width = width;
      some = some;
      fits = fits;
      some_decimal = some_decimal;
      fits_decimal = fits_decimal;
    }
