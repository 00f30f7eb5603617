use Rattle.std.proofs.Common.{IsTrue, false, inl, inr}
use Rattle.std.proofs.lemmas.Bool.{cases_lt, le-leb, leb-true}
use Rattle.lexical_parts.proofs.OfNumbers.Widths.{few_or_none, fits_width}
use Rattle.lexical_parts.proofs.numbers.padded.PaddedDigitsPart.is_known_valid_and_utf8.Goals as goal

pub returns-else-has_few_bits-clause-valid : goal.returns-else-has_few_bits-clause-valid
returns-else-has_few_bits-clause-valid g c =
    let radix = rw c.from.ensures at c.is_radix.ensures.0 c.if-is_radix.true in
    λ few. (radix, fits_width _ _ _ _ radix.at_least_two c.digit_count.ensures.count (leb-true _ _ few))

never : {A : Type 0} → IsTrue false → A
never is = absurd (cc)

pub returns-else-has_few_bits-clause-known : goal.returns-else-has_few_bits-clause-known
returns-else-has_few_bits-clause-known g c = λ radix fits.
    elim (cases_lt c.args.self.2 c.digit_count.result) [
      | inl many ↦
          let none = few_or_none _ _ _ (rw c.digit_count.ensures.count at many) fits in
          never (c.if-has_few_bits.ensures.zero (rw c.as_u64.ensures none))
      | inr few ↦ le-leb _ _ few
    ]
