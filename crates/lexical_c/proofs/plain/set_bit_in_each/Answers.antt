use Rattle.std.proofs.Common.{get_or, arith}
use Rattle.std.proofs.lemmas.List.{get_or_default}
use Rattle.std.proofs.lemmas.List.Edits.{map_over_more}
use Rattle.std.specs.Int.Bits.{bit_or}
use Rattle.lexical_c.proofs.plain.set_bit_in_each.Goals as goal

pub loop-byte-preserved : goal.loop-byte-preserved
loop-byte-preserved c =
    let index = c.loop-byte.byte-index in
    let byte = get_or c.loop-byte.text index 0 in
    let read = get_or_default c.loop-byte.text index 0 byte (omega arith) in
    map_over_more (λ byte. bit_or byte 32) c.args.text.now c.loop-byte.text index byte (omega arith)
    c.loop-byte.invariant read
