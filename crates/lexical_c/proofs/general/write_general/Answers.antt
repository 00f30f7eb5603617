use Rattle.std.proofs.Common.{arith}
use Rattle.lexical_c.proofs.WrittenTexts.{in_lowercase, in_uppercase}
use Rattle.lexical_c.proofs.general.write_general.Goals as goal

-- the check finds this proof by itself, but with an answer the refusal of a mistake says what is wrong
pub write_in_case-requires-clause-room : goal.write_in_case-requires-clause-room
write_in_case-requires-clause-room g c = c.in-Some.ensures.room _

pub returns-then-format-ne0 : goal.returns-then-format-ne0
returns-then-format-ne0 g c = grind (arith, in_lowercase)

-- the check finds this proof by itself, but with an answer the refusal of a mistake says what is wrong
pub returns-else-format-ne0 : goal.returns-else-format-ne0
returns-else-format-ne0 g c = in_uppercase _ _ _ _ _ c.if-format-ne0.false c.write_uppercase-count.ensures
