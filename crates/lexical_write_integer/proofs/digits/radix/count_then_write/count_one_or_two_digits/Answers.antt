use Rattle.std.proofs.Common.{leb, arith}
use Rattle.std.proofs.lemmas.Bool.{leb-true, leb-false}
use Rattle.lexical_write_integer.proofs.OfDigits.Count.DigitCounts.{digit_count-tested}
use Rattle.lexical_write_integer.proofs.OfDigits.Powers.{pow-one}
use Rattle.lexical_write_integer.proofs.OfDigits.Radix.Loops.Notes.{none_noted, slow_noted}
use Rattle.lexical_write_integer.proofs.digits.radix.count_then_write.count_one_or_two_digits.Goals as goal

pub returns-then-has_fast_count-clause-count : goal.returns-then-has_fast_count-clause-count
returns-then-has_fast_count-clause-count c =
    let r = c.args.radix in
    let n = c.args.number in
    rw (c.from-then-has_fast_count.ensures, c.from.ensures)
    (digit_count-tested (leb r n) r n 1 c.requires.radix.at_least_two (omega arith) (λ more. absurd (omega arith))
    c.requires.below
    (λ e. rw pow-one (leb-true r n e)) (λ e. rw pow-one (leb-false r n e)))

pub returns-then-has_fast_count-clause-notes : goal.returns-then-has_fast_count-clause-notes
returns-then-has_fast_count-clause-notes c = grind (arith, none_noted)

pub returns-else-has_fast_count-clause-notes : goal.returns-else-has_fast_count-clause-notes
returns-else-has_fast_count-clause-notes c = grind (arith, slow_noted)
