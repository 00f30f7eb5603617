use Rattle.lexical_write_integer.proofs.OfTexts.Grouping.Spread.{IsSpread}
use Rattle.lexical_write_integer.proofs.texts.groups.group_digits.Given as goal

abbrev pub invariant-loop-end : goal.invariant-loop-end
invariant-loop-end l = IsSpread (l.size, l.mark) l.count l.total l.left l.end l.in_group l.fn.buffer l.buffer

abbrev pub decreases-loop-end : goal.decreases-loop-end
decreases-loop-end l = l.end
