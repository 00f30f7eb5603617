use Rattle.lexical_write_integer.proofs.digits.radix.write_by_table_out_of_line.Goals as goal

pub returns-clause-digits : goal.returns-clause-digits
returns-clause-digits g c = c.write_by_table.ensures.digits
