-- The lengths of texts, and the buffers that are long enough for them.
use Rattle.std.proofs.Common.{◌≡◌, ℕ, ℤ, ◌+◌, ◌^◌, ◌<◌, ◌≤◌, length, unsigned_abs, refl, arith}
use Rattle.std.specs.Prelude.{Bool, ◌≤ℤ◌}
use Rattle.lexical_num.specs.BitWidth.{IsBitWidth}
use Rattle.lexical_num.specs.DecimalWidth.{IsDecimalWidth}
use Rattle.lexical_num.specs.Format.{Format, IsValid, grouped_length}
use Rattle.lexical_num.specs.Range.{greatest_of, least_of}
use Rattle.lexical_num.specs.Sign.{sign_of}
use Rattle.lexical_num.proofs.Magnitudes.{magnitude-small}
use Rattle.lexical_write_integer.specs.Computed.{text_of}
use Rattle.lexical_write_integer.specs.DigitCount.{digit_count}
use Rattle.lexical_write_integer.specs.Text.{need}
use Rattle.lexical_write_integer.proofs.OfTexts.ComputedTexts.{text_computed}
use Rattle.lexical_write_integer.proofs.OfTexts.Required.{length-IsText, grouped_length-le_need}

-- the text of a number consists of its sign, its digits, and the separators between them
pub length-text_of : (x : ℤ) (format : Format) → IsValid format → unsigned_abs x < 2 ^ 64 →
    length (text_of x format) ≡
    length (sign_of x format.required_mantissa_sign) + grouped_length format.digit_grouping
    (digit_count format.mantissa_radix (unsigned_abs x))
length-text_of x format valid small =
    let two = valid.mantissa.at_least_two in
    length-IsText x format (text_of x format) two valid.groups
    ((text_computed x format (text_of x format) two small).1 refl)

-- the text of a number fits a buffer of the length that its writer requires
pub text_of-le_need : {bits width : ℕ} (is_signed : Bool) (x : ℤ) (format : Format) → IsValid format → IsBitWidth bits →
    IsDecimalWidth (least_of bits is_signed) (greatest_of bits is_signed) width →
    least_of bits is_signed ≤ℤ x → x ≤ℤ greatest_of bits is_signed → length (text_of x format) ≤ need x width format
text_of-le_need is_signed x format valid of_type decimal at_least at_most =
    search (arith, magnitude-small, unsigned_abs, grouped_length-le_need, length-text_of)
