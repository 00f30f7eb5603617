use Rattle.std.proofs.Common.{sym, arith, length-set}
use Rattle.lexical_write_integer.proofs.Buffers.BlocksAfter.{WritesDigits-block}
use Rattle.lexical_write_integer.proofs.OfDigits.Count.DigitCounts.{digit_count-pos}
use Rattle.lexical_write_integer.proofs.OfDigits.Radix.TwoDigits.{WritesBlock-one_or_two}
use Rattle.lexical_write_integer.proofs.OfDigits.Radix.TablePairs.{length-table, pair_first, pair_second}
use Rattle.lexical_write_integer.proofs.digits.radix.steps.write_pair_by_bytes.Goals as goal

pub bounds-table-pair : goal.bounds-table-pair
bounds-table-pair g c = omega (arith, c.requires.below, length-table g.row.R c.args.table.pairs.now c.args.table.begins)

pub bounds-table-pair-2 : goal.bounds-table-pair-2
bounds-table-pair-2 g c = omega (
  arith,
  c.requires.below,
  length-table g.row.R c.args.table.pairs.now c.args.table.begins,
)

pub bounds-buffer-0 : goal.bounds-buffer-0
bounds-buffer-0 g c = omega (arith, c.requires.digits, digit_count-pos g.row.R c.args.number, c.requires.room)

pub overflow_sub-buffer : goal.overflow_sub-buffer
overflow_sub-buffer g c = omega (arith, c.requires.digits, digit_count-pos g.row.R c.args.number)

pub bounds-buffer-digits : goal.bounds-buffer-digits
bounds-buffer-digits g c =
    rw length-set (omega (arith, c.requires.digits, digit_count-pos g.row.R c.args.number, c.requires.room))

pub returns : goal.returns
returns g c =
    let r = g.row.R in
    let n = c.args.number in
    let table = c.args.table.pairs.now in
    let begins = c.args.table.begins in
    let two = c.args.table.is_radix.at_least_two in
    WritesDigits-block two (sym c.requires.digits) c.requires.room
    (WritesBlock-one_or_two r n _ c.args.buffer.now two c.requires.below c.requires.digits c.requires.room
    (pair_first r n table begins c.requires.below) (pair_second r n table begins c.requires.below))
