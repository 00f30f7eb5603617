-- Numbers with leading zeros.
use Rattle.std.specs.Prelude.{◌≡◌, ℕ, List, map}
use Rattle.lexical_num.specs.Digit.{digit_char}
use Rattle.lexical_write_integer.specs.Numeral.{IsBlockOf}

-- the characters of `width` digits whose value is the number, with leading zeros if it has fewer
pub record IsPadded (r width number : ℕ) (text : List ℕ) : Type 0 where
  pub digits : List ℕ
  pub block : IsBlockOf r width number digits
  pub characters : text ≡ map digit_char digits
