-- The widths of the integer types.
use Rattle.std.specs.Prelude.{ℕ}

-- a number of bits that an integer type has
pub data IsBitWidth : ℕ → Type 0 where
  is_8 : IsBitWidth 8
  is_16 : IsBitWidth 16
  is_32 : IsBitWidth 32
  is_64 : IsBitWidth 64
