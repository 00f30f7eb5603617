use Rattle.lexical_write_integer.proofs.OfDigits.Count.DigitCounts.{width-some}
use Rattle.lexical_write_integer.proofs.OfDigits.Count.Logarithms.{IsLog2-some, digit_count-le_log2}
use Rattle.lexical_write_integer.proofs.digits.count.most_digits.Goals as goal

pub nonzero_div-result : goal.nonzero_div-result
nonzero_div-result g c = IsLog2-some _ _ c.requires.at_least_two c.fast_log2.ensures.log2

pub returns-clause-enough : goal.returns-clause-enough
returns-clause-enough g c = λ number fits.
    rw c.BITS.ensures
    (digit_count-le_log2 c.args.radix number _ _ c.requires.at_least_two c.fast_log2.ensures.log2
    (width-some _ g.met.T.LexicalInteger.bit_width) fits)
