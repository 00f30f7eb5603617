use Rattle.std.proofs.Common.{sym, ◌/◌, ◌%◌, ◌∙◌, arith, length-set, length-take-le}
use Rattle.std.proofs.lemmas.Nat.{div_below}
use Rattle.lexical_num.specs.Digit.{digit_char}
use Rattle.lexical_write_integer.proofs.Buffers.Blocks.{WritesBlock-first}
use Rattle.lexical_write_integer.proofs.Buffers.BlocksAfter.{WritesDigits-block}
use Rattle.lexical_write_integer.proofs.OfDigits.Count.DigitCounts.{digit_count-pos}
use Rattle.lexical_write_integer.proofs.OfDigits.Radix.TwoDigits.{WritesBlock-one_or_two}
use Rattle.lexical_write_integer.proofs.OfDigits.Radix.TablePairs.{length-table, characters-pair, joined}
use Rattle.lexical_write_integer.proofs.OfTexts.Ascii.{digit_char-ascii}
use Rattle.lexical_write_integer.proofs.digits.radix.steps.write_pair_by_word.Goals as goal

pub slice_bounds-copy_from_slice-end-2 : goal.slice_bounds-copy_from_slice-end-2
slice_bounds-copy_from_slice-end-2 g c =
    omega (arith, c.requires.below, length-table g.row.R c.args.table.pairs.now c.args.table.begins)

pub bounds-written-0 : goal.bounds-written-0
bounds-written-0 g c = rw (length-take-le _ _ c.requires.room)
    (omega (arith, c.requires.digits, digit_count-pos g.row.R c.args.number))

pub overflow_sub-written : goal.overflow_sub-written
overflow_sub-written g c = omega (arith, c.requires.digits, digit_count-pos g.row.R c.args.number)

pub bounds-written-digits : goal.bounds-written-digits
bounds-written-digits g c = rw (length-set, length-take-le _ _ c.requires.room)
    (omega (arith, c.requires.digits, digit_count-pos g.row.R c.args.number))

pub returns : goal.returns
returns g c =
    let r = g.row.R in
    let n = c.args.number in
    let two = c.args.table.is_radix.at_least_two in
    let pair = c.copy_from_slice.ensures.after
    ∙ characters-pair r n c.args.table.pairs.now c.args.table.begins c.requires.below in
    let high = div_below n r r (omega (arith, two)) c.requires.below in
    let low = digit_char-ascii (n / r) (omega (arith, high, c.args.table.is_radix.at_most_36)) in
    let bytes = joined (digit_char (n / r)) (digit_char (n % r)) _ (omega (arith, low))
    (rw pair at c.from_le_bytes-characters.ensures) in
    WritesDigits-block two (sym c.requires.digits) c.requires.room
    (WritesBlock-first c.requires.room
    (WritesBlock-one_or_two r n _ _ two c.requires.below c.requires.digits
    (rw (length-take-le _ _ c.requires.room) (omega arith)) bytes.0 bytes.1))
