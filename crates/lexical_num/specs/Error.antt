-- The printed text of an error.
use Rattle.std.specs.Prelude.{ℕ, List, ◌++◌, codes}
use Rattle.std.specs.Fmt.{decimal}
use Rattle.lexical_num.specs.declared.error.Error.{Error}
use Rattle.lexical_num.specs.declared.error.Error.TheVariants.{InvalidMantissaRadix, InvalidExponentRadix}
use Rattle.lexical_num.specs.declared.error.Error.TheVariants.{InvalidGroupSize, InvalidGroupMark}

-- which part is invalid, and the invalid byte in decimal
abbrev pub printed_text : Error → List ℕ
printed_text (InvalidMantissaRadix radix) = codes "invalid mantissa radix " ++ decimal radix
printed_text (InvalidExponentRadix radix) = codes "invalid exponent radix " ++ decimal radix
printed_text (InvalidGroupSize size) = codes "invalid group size " ++ decimal size
printed_text (InvalidGroupMark mark) = codes "invalid group mark " ++ decimal mark
