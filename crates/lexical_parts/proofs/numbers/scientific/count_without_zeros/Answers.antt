use Rattle.std.proofs.Common.{arith}
use Rattle.lexical_parts.proofs.OfNumbers.TrailingZeros.{zeros_more}
use Rattle.lexical_parts.proofs.numbers.scientific.count_without_zeros.Goals as goal

pub loop-count-preserved : goal.loop-count-preserved
loop-count-preserved c =
    let loop = c.loop-count in record {
      some = omega arith;
      within = omega arith;
      zeros = zeros_more c.args.digits.now loop.count (omega arith)
          loop.invariant.within c.if-digits-count-eq48.true loop.invariant.zeros;
    }
