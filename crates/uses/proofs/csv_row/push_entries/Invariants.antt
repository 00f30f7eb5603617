use Rattle.std.proofs.Common.{take}
use Rattle.lexical_write_integer.specs.Sequence.{IsExactly}
use Rattle.lexical_parts.specs.Joined.{AreEach}
use Rattle.lexical_parts.specs.Sequence.{◌then◌}
use Rattle.uses.specs.CsvRow.{IsEntry}
use Rattle.uses.proofs.csv_row.push_entries.Given as goal

-- the entries so far are added
abbrev pub invariant-loop-number : goal.invariant-loop-number
invariant-loop-number l =
    (IsExactly l.initial.log.items then AreEach IsEntry (take l.number-index l.numbers)) l.log.items
