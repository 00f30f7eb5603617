use Rattle.std.proofs.Common.{◌≡◌, ◌+◌, ◌-◌, arith}
use Rattle.lexical_parts.proofs.OfNumbers.GroupedUnits.{AreUnits-digits, written_after_zeros}
use Rattle.lexical_parts.proofs.OfNumbers.Widths.{few_digits}
use Rattle.lexical_parts.proofs.numbers.fixed.write_units.Goals as goal

pub returns-then-count-decimals : goal.returns-then-count-decimals
returns-then-count-decimals g c =
    let few = few_digits g.met.T.LexicalInteger.decimal_width c.in_range.ensures.at_least c.in_range.ensures.at_most in
    let digits = c.write_magnitude-count.ensures.digits in
    let w = digits.writes in
    record {
      text = w.text;
      is = AreUnits-digits c.args.decimals 0 g.T.LexicalInteger.DECIMAL_WIDTH w.is
          (omega (arith, few, digits.count, w.count)) (omega (arith, w.count, c.if-count-decimals.true));
      front = w.front;
      count = w.count;
    }

pub returns : goal.returns
returns g c =
    let few = few_digits g.met.T.LexicalInteger.decimal_width c.in_range.ensures.at_least c.in_range.ensures.at_most in
    let digits = c.write_magnitude-count.ensures.digits in
    let zeros = c.args.decimals + 1 - c.write_magnitude-count.result in
    let total : zeros + c.write_magnitude-count.result ≡ c.args.decimals + 1 =
    omega (arith, c.if-count-decimals.false) in
    rw total at (written_after_zeros c.args.decimals zeros g.T.LexicalInteger.DECIMAL_WIDTH digits.writes
    (omega (arith, few, digits.count)) (omega arith) c.insert_fill.ensures)
