-- in the other arms the search finds it: here the table is too long for the numbers that it compares
use Rattle.lexical_write_integer.proofs.OfDigits.Radix.TablePairs.{begins_in_arm}
use Rattle.lexical_write_integer.proofs.digits.radix.algorithm.write_digits_in_radix.Goals as goal

pub write_digits-requires-in-23-clause-table : goal.write_digits-requires-in-23-clause-table
write_digits-requires-in-23-clause-table g c = begins_in_arm c.requires.table c.in-23.is

pub write_digits-requires-in-24-clause-table : goal.write_digits-requires-in-24-clause-table
write_digits-requires-in-24-clause-table g c = begins_in_arm c.requires.table c.in-24.is

pub write_digits-requires-in-25-clause-table : goal.write_digits-requires-in-25-clause-table
write_digits-requires-in-25-clause-table g c = begins_in_arm c.requires.table c.in-25.is

pub write_digits-requires-in-26-clause-table : goal.write_digits-requires-in-26-clause-table
write_digits-requires-in-26-clause-table g c = begins_in_arm c.requires.table c.in-26.is

pub write_digits-requires-in-27-clause-table : goal.write_digits-requires-in-27-clause-table
write_digits-requires-in-27-clause-table g c = begins_in_arm c.requires.table c.in-27.is

pub write_digits-requires-in-28-clause-table : goal.write_digits-requires-in-28-clause-table
write_digits-requires-in-28-clause-table g c = begins_in_arm c.requires.table c.in-28.is

pub write_digits-requires-in-29-clause-table : goal.write_digits-requires-in-29-clause-table
write_digits-requires-in-29-clause-table g c = begins_in_arm c.requires.table c.in-29.is

pub write_digits-requires-in-30-clause-table : goal.write_digits-requires-in-30-clause-table
write_digits-requires-in-30-clause-table g c = begins_in_arm c.requires.table c.in-30.is

pub write_digits-requires-in-31-clause-table : goal.write_digits-requires-in-31-clause-table
write_digits-requires-in-31-clause-table g c = begins_in_arm c.requires.table c.in-31.is

pub write_digits-requires-in-32-clause-table : goal.write_digits-requires-in-32-clause-table
write_digits-requires-in-32-clause-table g c = begins_in_arm c.requires.table c.in-32.is

pub write_digits-requires-in-33-clause-table : goal.write_digits-requires-in-33-clause-table
write_digits-requires-in-33-clause-table g c = begins_in_arm c.requires.table c.in-33.is

pub write_digits-requires-in-34-clause-table : goal.write_digits-requires-in-34-clause-table
write_digits-requires-in-34-clause-table g c = begins_in_arm c.requires.table c.in-34.is

pub write_digits-requires-in-35-clause-table : goal.write_digits-requires-in-35-clause-table
write_digits-requires-in-35-clause-table g c = begins_in_arm c.requires.table c.in-35.is

pub write_digits-requires-in-36-clause-table : goal.write_digits-requires-in-36-clause-table
write_digits-requires-in-36-clause-table g c = begins_in_arm c.requires.table c.in-36.is
