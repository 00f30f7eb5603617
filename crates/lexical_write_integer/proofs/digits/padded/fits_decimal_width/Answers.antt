use Rattle.std.proofs.Common.{arith, sym}
use Rattle.std.proofs.Math.Nat.{pow-le-pow_right}
use Rattle.std.proofs.lemmas.Bool.Decides.{Decides-ltb}
use Rattle.lexical_write_integer.proofs.digits.padded.fits_decimal_width.Goals as goal

-- every number of 64 bits is below 10 ^ 20, and so below each larger power
pub returns-then-width-ge20 : goal.returns-then-width-ge20
returns-then-width-ge20 c =
    let below = pow-le-pow_right {n = 10} (omega arith) c.if-width-ge20.true in grind arith

pub returns-else-width-ge20 : goal.returns-else-width-ge20
returns-else-width-ge20 c = rw (sym c.pow.ensures) (Decides-ltb c.args.number c.pow.result)
