use Rattle.std.proofs.Common.{◌/◌, ltb, arith}
use Rattle.std.proofs.lemmas.Bool.{ltb-true, ltb-false}
use Rattle.std.proofs.lemmas.List.{append-nil}
use Rattle.lexical_write_integer.proofs.OfDigits.Count.DigitCounts.{digit_count-tested}
use Rattle.lexical_write_integer.proofs.OfDigits.Powers.{pow-one}
use Rattle.lexical_write_integer.proofs.OfDigits.Radix.Loops.Notes.{slow_notes-one, slow_notes-two}
use Rattle.lexical_write_integer.proofs.OfDigits.Radix.Loops.ShortNumbers.{quotient-some, quotient-none}
use Rattle.lexical_write_integer.proofs.digits.radix.steps.count_one_or_two_by_division.Goals as goal
use Rattle.lexical_write_integer.proofs.digits.radix.steps.count_one_or_two_by_division.Goals.{then-left-gt0, else-left-gt0}

-- the quotient is 0 if there is one digit
pub returns-clause-count : goal.returns-clause-count
returns-clause-count c =
    let r = c.args.radix in
    let n = c.args.number in
    let two = c.requires.radix.at_least_two in
    rw c.from-2.ensures
    (digit_count-tested (ltb 0 (n / r)) r n 1 two (omega arith) (λ more. absurd (omega arith)) c.requires.below
    (λ e. rw pow-one (quotient-some r n (ltb-true 0 (n / r) e)))
    (λ e. rw pow-one (quotient-none r n (omega arith) (ltb-false 0 (n / r) e))))

-- with one digit the quotient is not noted
pub returns-clause-notes : goal.returns-clause-notes
returns-clause-notes c =
    elim c.if-left-gt0.branch [
      | then-left-gt0 w ↦ rw w.turns-is (grind (arith, quotient-some, slow_notes-two))
      | else-left-gt0 w ↦ rw w.turns-is (grind (arith, quotient-none, slow_notes-one, append-nil))
    ]
