use Rattle.lexical_write_integer.proofs.OfDigits.PaddedDigits.{length-IsPadded}
use Rattle.lexical_write_integer.proofs.laws.room.padded_length.Goals as goal

pub returns : goal.returns
returns c number text is = length-IsPadded _ _ number text is
