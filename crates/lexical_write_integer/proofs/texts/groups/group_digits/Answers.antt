use Rattle.std.proofs.Common.{sym, refl, arith}
use Rattle.lexical_write_integer.proofs.OfTexts.Grouping.Digits.{length-in_groups_taken}
use Rattle.lexical_write_integer.proofs.OfTexts.Grouping.Spread.{IsSpread-start, IsSpread-digit, IsSpread-mark}
use Rattle.lexical_write_integer.proofs.OfTexts.Grouping.Spread.{IsSpread-end}
use Rattle.lexical_write_integer.proofs.texts.groups.group_digits.Goals as goal

pub loop-end-init : goal.loop-end-init
loop-end-init c =
    let total = rw (← c.in-Some.ensures.value) at c.grouped_len-total.ensures in
    IsSpread-start record {
      size = omega (arith, c.from-size.ensures, (c.in-Some.ensures.valid _ refl).size.at_least_one);
      some = c.requires.some;
      total_count = rw c.from-size.ensures total;
      room = rw c.grouped_len-total.ensures c.requires.room;
    }

pub loop-end-preserved-then-in_group-size : goal.loop-end-preserved-then-in_group-size
loop-end-preserved-then-in_group-size c = IsSpread-mark (omega arith) (omega arith) c.loop-end.invariant

pub loop-end-preserved : goal.loop-end-preserved
loop-end-preserved c = IsSpread-digit (omega arith) (omega (arith, c.loop-end.invariant.few)) c.loop-end.invariant

pub returns-clause-groups : goal.returns-clause-groups
returns-clause-groups c = rw (← c.in-Some.ensures.value, ← c.from-size.ensures)
    (IsSpread-end (omega arith) c.loop-end.invariant)

pub returns-clause-count : goal.returns-clause-count
returns-clause-count c = rw (← c.in-Some.ensures.value, ← c.from-size.ensures)
    (sym (length-in_groups_taken c.loop-end.invariant.fits))
