use Rattle.std.specs.Int.Bits.{bit_or}
use Rattle.lexical_c.proofs.Halves.{in_halves}
use Rattle.lexical_c.proofs.Letters.{lowered_twice}
use Rattle.lexical_c.proofs.plain.set_bit_in_halves.Goals as goal

pub returns : goal.returns
returns g c =
    in_halves (λ byte. bit_or byte 32) lowered_twice c.args.text.now c.set_bit_in_each.new.text
    c.set_bit_in_each-2.new.text g.row.SIZE
    c.requires.ends c.requires.all c.set_bit_in_each.ensures c.set_bit_in_each-2.ensures
