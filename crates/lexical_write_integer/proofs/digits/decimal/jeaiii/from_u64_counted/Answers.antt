use Rattle.lexical_write_integer.proofs.Buffers.Prefixes.{digits_in_part}
use Rattle.lexical_write_integer.proofs.digits.decimal.jeaiii.from_u64_counted.Goals as goal

pub returns-clause-digits : goal.returns-clause-digits
returns-clause-digits c = digits_in_part _ _ 20 _ _ _ c.shared_write_64.ensures.digits
