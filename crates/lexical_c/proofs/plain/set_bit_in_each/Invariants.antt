use Rattle.std.proofs.Common.{◌≡◌, ◌++◌, map, take, drop}
use Rattle.std.specs.Int.Bits.{bit_or}
use Rattle.lexical_c.proofs.plain.set_bit_in_each.Given as goal

abbrev pub invariant-loop-byte : goal.invariant-loop-byte
invariant-loop-byte l = l.text ≡ map (λ byte. bit_or byte 32) (take l.byte-index l.fn.text)
    ++ drop l.byte-index l.fn.text
