use Rattle.std.proofs.Common.{arith}
use Rattle.lexical_write_integer.proofs.OfDigits.Count.DigitCounts.{width-le_64}
use Rattle.lexical_write_integer.proofs.OfDigits.Count.Logarithms.{estimate_is}
use Rattle.lexical_write_integer.proofs.digits.count.logarithm.fast_log10.Goals as goal

pub returns : goal.returns
returns g c =
    let narrow = width-le_64 g.T.LexicalInteger.BITS g.met.T.UnsignedInteger.range.width in
    record {
      log2 = c.fast_log2.result;
      is_log2 = c.fast_log2.ensures.log2;
      estimate = estimate_is c.fast_log2.result (omega (arith, narrow));
    }
