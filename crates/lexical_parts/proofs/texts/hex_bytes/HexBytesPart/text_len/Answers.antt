use Rattle.std.proofs.lemmas.Grind.{common_steps}
use Rattle.std.proofs.Common.{ℕ, ◌*◌, arith, length}
use Rattle.lexical_write_integer.specs.Padded.{IsPadded}
use Rattle.lexical_parts.proofs.OfTexts.Lengths.{each_same, padded_length, joined_length}
use Rattle.lexical_parts.proofs.texts.hex_bytes.HexBytesPart.text_len.Goals as goal

pub returns : goal.returns
returns c =
    let bytes = c.args.self.0.now in
    let each = each_same (IsPadded 16 2) 2 (λ byte. padded_length 16 2 byte) bytes in
    let whole = λ (total : ℕ). joined_length (IsPadded 16 2) c.args.self.1.now bytes (length bytes * 2) total each in
    grind (arith, common_steps, whole)
