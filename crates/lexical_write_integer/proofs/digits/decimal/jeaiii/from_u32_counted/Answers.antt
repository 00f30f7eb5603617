use Rattle.lexical_write_integer.proofs.Buffers.Prefixes.{digits_in_part}
use Rattle.lexical_write_integer.proofs.digits.decimal.jeaiii.from_u32_counted.Goals as goal

pub returns-clause-digits : goal.returns-clause-digits
returns-clause-digits c = digits_in_part _ _ 10 _ _ _ c.shared_write_32.ensures.digits

-- the check finds this proof by itself, but with an answer the refusal of a mistake says what is wrong
pub returns-clause-notes : goal.returns-clause-notes
returns-clause-notes c = c.shared_write_32.ensures.notes
