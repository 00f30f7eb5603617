use Rattle.std.proofs.Common.{arith}
use Rattle.lexical_lines.proofs.request.integer_type.Width.split_name.Goals as goal

pub returns-in_default-clause-none : goal.returns-in_default-clause-none
returns-in_default-clause-none c is rest e = grind arith
