use Rattle.std.proofs.Common.{arith}
use Rattle.lexical_write_integer.specs.Padded.{IsPadded}
use Rattle.lexical_write_integer.specs.Sequence.{Then}
use Rattle.lexical_write_integer.specs.Text.{IsDigits}
use Rattle.lexical_write_integer.proofs.OfTexts.Appended.{digits_then_padded}
use Rattle.lexical_write_integer.proofs.laws.appended.decimal_then_padded.Goals as goal

pub returns : goal.returns
returns c text is =
    let first = is.is_first in
    let both : Then (IsDigits 10 c.args.high) (IsPadded 10 c.args.width c.args.low) text =
    record {
      first = is.first;
      second = is.second;
      is_first = rw first.whole first.magnitude;
      is_second = is.is_second;
      whole = is.whole;
    } in
    record { digits = text; magnitude = digits_then_padded _ _ _ _ text c.requires both; whole = search arith }
