use Rattle.lexical_write_integer.proofs.Buffers.Prefixes.{digits_in_part}
use Rattle.lexical_write_integer.proofs.digits.decimal.jeaiii.from_u16_counted.Goals as goal

pub returns-clause-digits : goal.returns-clause-digits
returns-clause-digits c = rw c.from.ensures at (digits_in_part _ _ 5 _ _ _ c.shared_write_32.ensures.digits)
