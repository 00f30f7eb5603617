-- A text in a column of a format string.
use Rattle.std.specs.Prelude.{◌≡◌, ◌≢◌, ℕ, ◌<◌, ◌≤◌, false, List, length}
use Rattle.std.specs.Fmt.{formatter_spec}
use Rattle.std.specs.declared.fmt.Formatter.{Formatter}

-- the text is at the right of at most 128 characters, without zeros and another sign, and the fill is one byte
pub record IsShortCell {W : Type 0} (f : Formatter W) (text : List ℕ) : Type 0 where
  pub no_plus : (formatter_spec f).plus ≡ false
  pub no_zeros : (formatter_spec f).zero ≡ false
  pub not_left : (formatter_spec f).align ≢ 1
  pub not_center : (formatter_spec f).align ≢ 2
  pub ascii : (formatter_spec f).fill < 128
  pub narrow : (formatter_spec f).width ≤ 128
  pub short : length text ≤ 128
