use Rattle.std.proofs.Common.{◌≡◌, ◌+◌, ◌≤◌, ◌++◌, arith}
use Rattle.lexical_write_integer.specs.DigitCount.{digit_count}
use Rattle.lexical_write_integer.specs.LoopTurns.{slow_notes}
use Rattle.lexical_write_integer.proofs.OfDigits.Count.DigitCounts.{digit_count-le_64}
use Rattle.lexical_write_integer.proofs.OfDigits.Radix.Loops.Notes.{slow_count-is, slow_notes-are, length-more}
use Rattle.lexical_write_integer.proofs.OfDigits.Radix.Loops.Notes.{length-slow_notes}
use Rattle.lexical_write_integer.proofs.digits.count.slow_digit_count_counted.Goals as goal
use Rattle.lexical_write_integer.proofs.digits.count.slow_digit_count_counted.Goals.{After-remove_digits_by-by_one}

count_is : (g : _) (c : After-remove_digits_by-by_one g)
    → 1 + c.remove_digits_by-left.result.1 + c.remove_digits_by-left-2.result.1 + c.remove_digits_by-by_one.result.1
    ≡ digit_count c.args.radix (g.T.UnsignedInteger.magnitude c.args.x)
count_is g c = slow_count-is c.requires.at_least_two c.remove_digits_by-left.ensures c.remove_digits_by-left-2.ensures
    c.remove_digits_by-by_one.ensures

notes_are : (g : _) (c : After-remove_digits_by-by_one g)
    → c.remove_digits_by-by_one.new.turns ≡ c.args.turns.now
    ++ slow_notes c.args.radix (g.T.UnsignedInteger.magnitude c.args.x)
notes_are g c = slow_notes-are c.requires.at_least_two c.remove_digits_by-left.ensures c.remove_digits_by-left-2.ensures
    c.remove_digits_by-by_one.ensures

at_most_64 : (g : _) (c : After-remove_digits_by-by_one g)
    → digit_count c.args.radix (g.T.UnsignedInteger.magnitude c.args.x) ≤ 64
at_most_64 g c = digit_count-le_64 _ _ _ c.requires.at_least_two g.met.T.UnsignedInteger.range.width c.fits_bits.ensures

pub overflow_add-result-2 : goal.overflow_add-result-2
overflow_add-result-2 g c = omega (arith, count_is g c, at_most_64 g c)

pub overflow_add-result-3 : goal.overflow_add-result-3
overflow_add-result-3 g c = omega (arith, count_is g c, at_most_64 g c)

pub returns-clause-count : goal.returns-clause-count
returns-clause-count g c = count_is g c

pub returns-clause-at_most_64 : goal.returns-clause-at_most_64
returns-clause-at_most_64 g c = omega (arith, count_is g c, at_most_64 g c)

pub returns-clause-notes : goal.returns-clause-notes
returns-clause-notes g c = notes_are g c

pub returns-clause-turns : goal.returns-clause-turns
returns-clause-turns g c =
    rw (count_is g c) (length-more _ _ _ _ (notes_are g c)
    (length-slow_notes c.args.radix (g.T.UnsignedInteger.magnitude c.args.x)))
