use Rattle.std.proofs.Common.{arith}
use Rattle.std.proofs.lemmas.Bool.{eq-eqb, ne_eqb}
use Rattle.lexical_write_integer.proofs.OfDigits.Count.DigitCounts.{WritesDigits-short}
use Rattle.lexical_write_integer.proofs.OfDigits.Radix.Loops.Notes.{table_turns-are, table_turns-few}
use Rattle.lexical_write_integer.proofs.digits.write.write_integer_counted.Goals as goal

pub returns-then-radix-eq10-clause-at_most : goal.returns-then-radix-eq10-clause-at_most
returns-then-radix-eq10-clause-at_most g c =
    WritesDigits-short c.decimal_counted.ensures.digits (omega arith)
    g.met.T.UnsignedInteger.range.width c.fits_bits.ensures

-- the check finds this proof by itself, but with an answer the refusal of a mistake says what is wrong
pub returns-then-radix-eq10-clause-notes : goal.returns-then-radix-eq10-clause-notes
returns-then-radix-eq10-clause-notes g c =
    rw (eq-eqb c.args.radix 10 c.if-radix-eq10.true) c.decimal_counted.ensures.notes

pub returns-else-radix-eq10-clause-at_most : goal.returns-else-radix-eq10-clause-at_most
returns-else-radix-eq10-clause-at_most g c =
    WritesDigits-short c.write_in_radix.ensures.digits c.requires.radix.at_least_two g.met.T.UnsignedInteger.range.width
    c.fits_bits.ensures

-- the check finds this proof by itself, but with an answer the refusal of a mistake says what is wrong
pub returns-else-radix-eq10-clause-notes : goal.returns-else-radix-eq10-clause-notes
returns-else-radix-eq10-clause-notes g c =
    rw (ne_eqb c.args.radix 10 c.if-radix-eq10.false) c.write_in_radix.ensures.notes

pub returns-else-radix-eq10-clause-turns : goal.returns-else-radix-eq10-clause-turns
returns-else-radix-eq10-clause-turns g c =
    let other = ne_eqb c.args.radix 10 c.if-radix-eq10.false in
    rw other (rw other at (table_turns-are _ _ _ _ _ c.write_in_radix.ensures.notes
    c.write_in_radix.ensures.digits.count))

pub returns-else-radix-eq10-clause-few_turns : goal.returns-else-radix-eq10-clause-few_turns
returns-else-radix-eq10-clause-few_turns g c =
    table_turns-few _ _ _ _ _ c.requires.radix.at_least_two g.met.T.UnsignedInteger.range.width c.fits_bits.ensures
    c.write_in_radix.ensures.notes
