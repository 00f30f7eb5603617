-- When a number is written, and what the buffer holds after the call.
use Rattle.std.specs.Prelude.{◌≡◌, ℕ, ◌<◌, ◌≤◌, ◌↔◌, List, length, ℤ}
use Rattle.lexical_write_integer.specs.Buffer.{Writes}
use Rattle.lexical_write_integer.specs.Computed.{text_of}
use Rattle.lexical_write_integer.specs.Text.{IsText}
use Rattle.lexical_c.specs.Format.{InCase, IsAccepted, format_of}
use Rattle.lexical_c.specs.declared.format.CFormat.{CFormat}

-- the format is accepted, and a buffer of this length has room for the text of the number
pub record IsWritable (number : ℤ) (format : CFormat) (room : ℕ) : Type 0 where
  pub accepted : IsAccepted format
  pub fits : length (text_of number (format_of format)) ≤ room

-- if the number can be written, a text of this kind is at the start of the buffer and the result is its length;
-- otherwise the result is 0 and the buffer is unchanged
pub record WritesIf (number : ℤ) (format : CFormat) (Is : List ℕ → Type 0) (before after : List ℕ) (result : ℕ)
    : Type 0 where
  pub accepts : 0 < result ↔ IsWritable number format (length before)
  pub text : 0 < result → Writes Is before after result
  pub refused : result ≡ 0 → after ≡ before

-- the text is in the case that the format requests
abbrev pub WritesOrRefuses : ℤ → CFormat → List ℕ → List ℕ → ℕ → Type 0
WritesOrRefuses number format = WritesIf number format (InCase format.lowercase (IsText number (format_of format)))
