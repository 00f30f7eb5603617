use Rattle.std.proofs.Common.{◌≡◌, ◌+◌, ◌^◌, sym, arith}
use Rattle.lexical_write_integer.specs.DigitCount.{digit_count}
use Rattle.lexical_write_integer.proofs.OfDigits.Count.DigitCounts.{digit_count-le_64}
use Rattle.lexical_write_integer.proofs.OfDigits.Count.Logarithms.{digit_count-estimate, digit_count-estimate_more}
use Rattle.lexical_write_integer.proofs.OfDigits.Count.DecimalTables.{entry_is, past_table}
use Rattle.lexical_write_integer.proofs.digits.count.decimal_count.fallback_digit_count.Goals as goal
use Rattle.lexical_write_integer.proofs.digits.count.decimal_count.fallback_digit_count.Goals.{Then-is_at_least}
use Rattle.lexical_write_integer.proofs.digits.count.decimal_count.fallback_digit_count.Goals.{Joined-else-log10-table}
use Rattle.lexical_write_integer.proofs.digits.count.decimal_count.fallback_digit_count.Goals.{else-log10-table-via-then-log10-table+else-is_at_least}
use Rattle.lexical_write_integer.proofs.digits.count.decimal_count.fallback_digit_count.Goals.{else-log10-table-via-else-log10-table}

-- the entry is the power of ten after the estimate, and the number is at least that
two_more : (g : _) (c : Then-is_at_least g) → c.fast_log10-log10.result + 2
    ≡ digit_count 10 (g.T.UnsignedInteger.magnitude c.args.x)
two_more g c =
    let limit = 2 ^ g.T.LexicalInteger.BITS in
    let index = c.index-table-log10 in
    let entry =
    entry_is limit g.T.UnsignedInteger.magnitude c.args.table.now c.fast_log10-log10.result index.result (omega arith)
    index.is c.requires in
    sym (digit_count-estimate_more _ _ c.fast_log10-log10.ensures
    (rw entry at (c.is_at_least.ensures.0 c.if-is_at_least.true)))

one_more : (g : _) (c : Joined-else-log10-table g)
    → c.fast_log10-log10.result + 1 ≡ digit_count 10 (g.T.UnsignedInteger.magnitude c.args.x)
one_more g c =
    let limit = 2 ^ g.T.LexicalInteger.BITS in
    sym (digit_count-estimate _ _ c.fast_log10-log10.ensures (elim c.else-log10-table.branch [
      | else-log10-table-via-then-log10-table+else-is_at_least w ↦
          let index = w.index-table-log10 in
          let entry =
          entry_is limit g.T.UnsignedInteger.magnitude c.args.table.now c.fast_log10-log10.result index.result
          (omega arith) index.is c.requires in
          grind (arith, w.is_at_least.ensures, entry)
      | else-log10-table-via-else-log10-table w ↦
          let past = past_table limit g.T.UnsignedInteger.magnitude c.args.table.now c.fast_log10-log10.result
          (omega arith) c.requires in
          omega (arith, past, c.fits_bits.ensures)
    ]))

pub overflow_add-result : goal.overflow_add-result
overflow_add-result g c =
    let few = digit_count-le_64 10 _ _ (omega arith) g.met.T.UnsignedInteger.range.width c.fits_bits.ensures in
    omega (arith, two_more g c, few)

pub overflow_add-result-else-log10-table : goal.overflow_add-result-else-log10-table
overflow_add-result-else-log10-table g c =
    let few = digit_count-le_64 10 _ _ (omega arith) g.met.T.UnsignedInteger.range.width c.fits_bits.ensures in
    omega (arith, one_more g c, few)

pub returns-then-is_at_least : goal.returns-then-is_at_least
returns-then-is_at_least g c = two_more g c

pub returns-else-log10-table : goal.returns-else-log10-table
returns-else-log10-table g c = one_more g c
