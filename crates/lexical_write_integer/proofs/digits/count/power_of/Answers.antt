use Rattle.std.proofs.Common.{◌∙◌, sym, ◌^◌, arith}
use Rattle.std.proofs.Math.Nat.{div-lt_iff_lt-mul, one-le-pow, pow-le-pow_right}
use Rattle.std.proofs.lemmas.Bool.{eqb-true}
use Rattle.lexical_write_integer.proofs.OfDigits.Count.RadixPowers.{power-small}
use Rattle.lexical_write_integer.proofs.digits.count.power_of.Goals as goal
use Rattle.lexical_write_integer.proofs.digits.count.power_of.Goals.{then-BITS-ge32, else-BITS-ge32}

pub pow-power-requires : goal.pow-power-requires
pow-power-requires g c = power-small _ _ c.requires.radix.at_most_36 c.requires.exponent

-- the check finds this proof by itself, but with an answer the refusal of a mistake says what is wrong
pub returns-then-power-BITS-eq0-clause-power : goal.returns-then-power-BITS-eq0-clause-power
returns-then-power-BITS-eq0-clause-power g c = c.from_u32.ensures ∙ c.pow-power.ensures

-- with an answer here, too, the refusal of a mistake says what is wrong: a power that does not fit would be cut off
pub from_u32-requires : goal.from_u32-requires
from_u32-requires g c =
    let small = power-small _ _ c.requires.radix.at_most_36 c.requires.exponent in
    elim c.if-BITS-ge32.branch [
      | then-BITS-ge32 w ↦
          let enough = pow-le-pow_right {n = 2} (omega arith) {i = 32} {j = g.T.LexicalInteger.BITS}
          (omega (arith, w.if-BITS-ge32.true, c.BITS.ensures)) in
          omega (arith, small, c.pow-power.ensures, enough)
      | else-BITS-ge32 w ↦
          let none = rw w.BITS-else-BITS-ge32.ensures at (eqb-true _ _ (sym w.value-is ∙ c.if-power-BITS-eq0.true)) in
          let some = one-le-pow g.T.LexicalInteger.BITS 2 (omega arith) in
          omega (
            arith,
            (div-lt_iff_lt-mul {k = 2 ^ g.T.LexicalInteger.BITS} {x = c.pow-power.result} {y = 1}
                (omega (arith, some))).0 (omega (arith, none)),
          )
    ]
