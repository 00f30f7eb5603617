use Rattle.lexical_write_integer.proofs.digits.radix.write_with_short_inline.Goals as goal

pub returns-then-number-from-clause-digits : goal.returns-then-number-from-clause-digits
returns-then-number-from-clause-digits g c = rw (← c.as_u64-number.ensures) c.write_one_or_two_digits.ensures.digits
