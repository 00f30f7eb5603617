use Rattle.std.proofs.Common.{◌+◌, ◌*◌, ◌/◌, ◌<◌, ◌≤◌, ◌^◌, arith}
use Rattle.std.proofs.Math.Nat.{lt-div-mul-add, pow-le-pow_right}
use Rattle.std.proofs.lemmas.Bool.{eqb-true}
use Rattle.std.proofs.lemmas.Nat.{pow_pos}
use Rattle.lexical_parts.proofs.OfNumbers.Widths.{fits_bits}
use Rattle.lexical_parts.proofs.numbers.padded.has_few_bits.Goals as goal

-- every number has at most 64 bits
pub returns-then-width-ge64-clause-below : goal.returns-then-width-ge64-clause-below
returns-then-width-ge64-clause-below c = λ _.
    let wide = pow-le-pow_right {n = 2} (omega arith) {i = 64} {j = 1 * c.args.width}
    (omega (arith, c.if-width-ge64.true)) in
    fits_bits c.args.radix 1 c.args.number c.args.width (omega (arith, c.requires.at_least_two))
    (omega (arith, wide, c.ranges.number.fits))

pub returns-then-bits-ge64-clause-below : goal.returns-then-bits-ge64-clause-below
returns-then-bits-ge64-clause-below c = λ _.
    let wide : 2 ^ 64 ≤ 2 ^ (c.ilog2.result * c.args.width) =
    pow-le-pow_right {n = 2} (omega arith) c.if-bits-ge64.true in
    fits_bits c.args.radix c.ilog2.result c.args.number c.args.width c.ilog2.ensures.power_le
    (omega (arith, wide, c.ranges.number.fits))

pub returns-else-bits-ge64-clause-below : goal.returns-else-bits-ge64-clause-below
returns-else-bits-ge64-clause-below c = λ none.
    let bits = c.ilog2.result * c.args.width in
    let below : c.args.number < c.args.number / 2 ^ bits * 2 ^ bits + 2 ^ bits =
    lt-div-mul-add {b = 2 ^ bits} (pow_pos bits) in
    let few : c.args.number < 2 ^ bits = omega (arith, rw (eqb-true _ _ none) at below) in
    fits_bits c.args.radix c.ilog2.result c.args.number c.args.width c.ilog2.ensures.power_le few
