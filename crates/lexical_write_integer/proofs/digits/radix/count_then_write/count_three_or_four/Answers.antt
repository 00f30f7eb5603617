use Rattle.std.proofs.Common.{◌*◌, leb, arith}
use Rattle.std.proofs.lemmas.Bool.{leb-true, leb-false}
use Rattle.lexical_write_integer.proofs.OfDigits.Count.DigitCounts.{digit_count-tested}
use Rattle.lexical_write_integer.proofs.OfDigits.Powers.{pow-three}
use Rattle.lexical_write_integer.proofs.digits.radix.count_then_write.count_three_or_four.Goals as goal

pub returns-clause-count : goal.returns-clause-count
returns-clause-count c =
    let r = c.args.radix in
    let n = c.args.number in
    let cube = r * r * r in
    rw (c.from-2.ensures, c.from.ensures)
    (digit_count-tested (leb cube n) r n 3 c.requires.radix.at_least_two (omega arith) (λ _. c.requires.more)
    c.requires.below
    (λ e. rw pow-three (leb-true cube n e)) (λ e. rw pow-three (leb-false cube n e)))
