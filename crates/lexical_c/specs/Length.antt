-- The length of the text of a number.
use Rattle.std.specs.Prelude.{◌≡◌, ℕ, ◌<◌, ◌↔◌, length, ℤ}
use Rattle.lexical_write_integer.specs.Computed.{text_of}
use Rattle.lexical_c.specs.Format.{IsAccepted, format_of}
use Rattle.lexical_c.specs.declared.format.CFormat.{CFormat}

-- the length of the text of the number, or 0 if the format is not accepted
pub record IsLength (number : ℤ) (format : CFormat) (result : ℕ) : Type 0 where
  pub accepts : 0 < result ↔ IsAccepted format
  pub count : 0 < result → result ≡ length (text_of number (format_of format))
