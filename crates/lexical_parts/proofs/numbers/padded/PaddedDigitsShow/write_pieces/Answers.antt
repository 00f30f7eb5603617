use Rattle.std.proofs.Common.{refl}
use Rattle.std.proofs.Output.{writes_in_calls_append, writes_in_calls_single}
use Rattle.lexical_parts.proofs.numbers.padded.PaddedDigitsShow.write_pieces.Goals as goal

pub returns : goal.returns
returns g c = λ ok.
    let digits = writes_in_calls_single _ _ _ _ (c.write_str.ensures.ok ok) in
    record {
      text = _;
      is = c.in_ok-zeros.ensures.text;
      wrote = writes_in_calls_append _ _ _ _ _ _ (c.in_ok-write_copies.ensures refl) digits;
    }
