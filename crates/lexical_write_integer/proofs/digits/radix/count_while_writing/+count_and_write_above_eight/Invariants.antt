use Rattle.lexical_write_integer.proofs.digits.radix.count_while_writing.+count_and_write_above_eight.Given as goal

-- each call divides the number
abbrev pub decreases-count_and_write_above_eight : goal.decreases-count_and_write_above_eight
decreases-count_and_write_above_eight g l = l.value
