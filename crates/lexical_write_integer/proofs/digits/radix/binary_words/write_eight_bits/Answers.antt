use Rattle.std.proofs.Common.{◌∙◌}
use Rattle.lexical_write_integer.proofs.OfDigits.Radix.BinaryWords.{WritesBlock-bits, word-bits}
use Rattle.lexical_write_integer.proofs.digits.radix.binary_words.write_eight_bits.Goals as goal

pub returns : goal.returns
returns c =
    let characters = c.copy_from_slice.ensures.after ∙ c.to_le_bytes-characters.ensures
    ∙ word-bits c.args.bits c.requires.below in
    WritesBlock-bits 8 c.args.bits c.args.at c.args.buffer.now c.copy_from_slice.new.self c.requires.below characters
    c.requires.room
