use Rattle.std.proofs.Common.{◌++◌}
use Rattle.lexical_write_integer.proofs.OfDigits.Numerals.{IsBlockOf-append}
use Rattle.lexical_write_integer.proofs.OfTexts.Appended.{characters_of}
use Rattle.lexical_write_integer.proofs.laws.appended.padded_then_padded.Goals as goal

pub returns : goal.returns
returns c text is = record {
  digits = is.is_first.digits ++ is.is_second.digits;
  block = IsBlockOf-append is.is_first.block is.is_second.block;
  characters = characters_of _ _ _ _ _ is.whole is.is_first.characters is.is_second.characters;
}
