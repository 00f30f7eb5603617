-- What a writer leaves in its buffer.
use Rattle.std.specs.Prelude.{◌≡◌, ℕ, ◌+◌, ◌≤◌, List, ◌++◌, length, map, take, drop, ℤ}
use Rattle.lexical_num.specs.Digit.{digit_char}
use Rattle.lexical_num.specs.Format.{Format}
use Rattle.lexical_write_integer.specs.DigitCount.{digit_count}
use Rattle.lexical_write_integer.specs.Numeral.{IsBlockOf}
use Rattle.lexical_write_integer.specs.Text.{IsDigits, IsText}

-- the buffer starts with the text, and every byte after the text is unchanged
pub record Front (before after text : List ℕ) : Type 0 where
  pub fits : length text ≤ length before
  pub written : after ≡ text ++ drop (length text) before

-- the buffer starts with a text of this kind, every byte after it is unchanged, and the result is its length
pub record Writes (IsWritten : List ℕ → Type 0) (before after : List ℕ) (len : ℕ) : Type 0 where
  pub text : List ℕ
  pub is : IsWritten text
  pub front : Front before after text
  pub count : len ≡ length text

-- the buffer starts with the digits of the number, every byte after them is unchanged, and the result is their number
pub record WritesDigits (r number : ℕ) (before after : List ℕ) (len : ℕ) : Type 0 where
  pub writes : Writes (IsDigits r number) before after len
  pub count : len ≡ digit_count r number

-- the buffer starts with the text of the number, every byte after it is unchanged, and the result is its length
abbrev pub WritesText : ℤ → Format → List ℕ → List ℕ → ℕ → Type 0
WritesText number format = Writes (IsText number format)

-- the number is written as `count` digits at index `at`, with leading zeros if it has fewer, and every other byte is
-- unchanged
pub record WritesBlock (r count number at : ℕ) (before after : List ℕ) : Type 0 where
  pub digits : List ℕ
  pub block : IsBlockOf r count number digits
  pub written : drop at after ≡ map digit_char digits ++ drop (at + count) before
  pub kept : take at after ≡ take at before
