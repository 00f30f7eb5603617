-- Zeros before the digits of a text, and a byte 0 after it.
use Rattle.std.specs.Prelude.{◌≡◌, ℕ, ◌-◌, ◌<◌, ◌≤◌, ◌↔◌, max, List, length, take}
use Rattle.lexical_write_integer.specs.Buffer.{Front}
use Rattle.lexical_write_integer.specs.ZerosAfterSign.{with_zeros}

-- there is a text of this length, and room for it and for the width
pub record IsPaddable (count width room : ℕ) : Type 0 where
  pub some : 0 < count
  pub is_there : count ≤ room
  pub fits : width ≤ room

-- the text of `count` bytes at the start of the buffer has zeros up to the width, and the result is its length;
-- otherwise the result is 0 and the buffer is unchanged
pub record PadsOrRefuses (count width : ℕ) (before after : List ℕ) (result : ℕ) : Type 0 where
  pub accepts : 0 < result ↔ IsPaddable count width (length before)
  pub long : 0 < result → result ≡ max count width
  pub text : 0 < result → Front before after (with_zeros (width - count) (take count before))
  pub refused : result ≡ 0 → after ≡ before
