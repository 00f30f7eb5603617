use Rattle.std.proofs.Common.{arith}
use Rattle.std.proofs.lemmas.Nat.{div_below}
use Rattle.lexical_write_integer.proofs.Buffers.Blocks.{WritesBlock-part}
use Rattle.lexical_write_integer.proofs.OfDigits.Count.RadixPowers.{power-gt_one}
use Rattle.lexical_write_integer.proofs.OfDigits.Powers.{pow-two, pow-four}
use Rattle.lexical_write_integer.proofs.OfDigits.Radix.TablePairs.{WritesBlock-pairs}
use Rattle.lexical_write_integer.proofs.digits.radix.steps.write_four.Goals as goal

pub write-requires-2 : goal.write-requires-2
write-requires-2 g c = grind (arith, pow-two, power-gt_one, pow-four, div_below)

pub returns : goal.returns
returns g c = grind (arith, WritesBlock-part, WritesBlock-pairs)
