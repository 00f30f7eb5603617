use Rattle.std.proofs.Common.{◌*◌, ◌≤◌, take}
use Rattle.lexical_write_integer.specs.Buffer.{Writes}
use Rattle.lexical_parts.specs.Joined.{AreEach}
use Rattle.uses.specs.CsvRow.{IsEntry}
use Rattle.uses.proofs.csv_row.write_entries.Given as goal

-- the entries so far are written
abbrev pub invariant-loop-number : goal.invariant-loop-number
invariant-loop-number l = record {
  written : Writes (AreEach IsEntry (take l.number-index l.numbers)) l.initial.buffer l.buffer l.count;
  within : l.count ≤ 21 * l.number-index;
}
