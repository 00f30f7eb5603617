use Rattle.std.proofs.Common.{arith}
use Rattle.lexical_c.proofs.Hexadecimals.{last_two_digits, first_digits, length-before_two}
use Rattle.lexical_c.proofs.hexadecimal.+fill_with_digits.Goals as goal

pub fill_with_digits-requires : goal.fill_with_digits-requires
fill_with_digits-requires t c =
    let long = length-before_two c.args.text.now c.last_two-first.result.0 c.last_two-first.result.1
    c.if-text-gt2.true in
    (omega (arith, long), omega (arith, long))

pub returns-then-text-gt2 : goal.returns-then-text-gt2
returns-then-text-gt2 t c =
    last_two_digits c.args.number c.args.text.now c.if-text-gt2.true c.last_two-first.ensures.first
    c.last_two-first.ensures.second
    c.fill_with_digits.ensures

pub returns-else-text-gt2 : goal.returns-else-text-gt2
returns-else-text-gt2 t c =
    let two = c.last_two-first-else-text-gt2 in
    first_digits c.args.number c.args.text.now c.requires c.if-text-gt2.false two.ensures.first two.ensures.second
