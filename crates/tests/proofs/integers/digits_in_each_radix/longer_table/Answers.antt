use Rattle.std.proofs.Common.{◌∙◌}
use Rattle.std.proofs.lemmas.List.{take_at}
use Rattle.tests.proofs.integers.digits_in_each_radix.longer_table.Goals as goal

pub algorithm-count-requires-clause-table : goal.algorithm-count-requires-clause-table
algorithm-count-requires-clause-table g c =
    record {
      first = take_at c.copy_from_slice.new.self _ 288 c.copy_from_slice.ensures.len
          ∙ c.copy_from_slice.ensures.after ∙ c.get_table.ensures.table;
    }
