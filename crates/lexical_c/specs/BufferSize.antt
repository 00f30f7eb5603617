-- The sizes of buffers that are enough for every number of a type.
use Rattle.std.specs.Prelude.{◌≡◌, ℕ, ◌<◌, ◌≤◌, ◌↔◌, ℤ, ◌≤ℤ◌, length}
use Rattle.lexical_num.specs.declared.constants.TheConstants.{BUFFER_SIZE}
use Rattle.lexical_num.specs.Format.{Format}
use Rattle.lexical_num.specs.Size.{size_in}
use Rattle.lexical_write_integer.specs.Computed.{text_of}
use Rattle.lexical_c.specs.Format.{IsAccepted, format_of}
use Rattle.lexical_c.specs.declared.format.CFormat.{CFormat}

-- a buffer of this size has room for the text of every number from `smallest` to `largest`
abbrev pub IsEnough : ℤ → ℤ → Format → ℕ → Type 0
IsEnough smallest largest format size =
    (number : ℤ) → smallest ≤ℤ number → number ≤ℤ largest → length (text_of number format) ≤ size

-- the size of the type in the format, which is enough for every number of the type, or 0 if it is not accepted
pub record IsBufferSize (smallest largest : ℤ) (formatted_size formatted_size_decimal : ℕ) (format : CFormat)
    (result : ℕ) : Type 0 where
  pub accepts : 0 < result ↔ IsAccepted format
  pub size : 0 < result → result ≡ size_in formatted_size formatted_size_decimal (format_of format)
  pub enough : 0 < result → IsEnough smallest largest (format_of format) result
  pub within : result ≤ BUFFER_SIZE
