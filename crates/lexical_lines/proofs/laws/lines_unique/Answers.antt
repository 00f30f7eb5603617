use Rattle.lexical_lines.proofs.Lines.{AreLines-exist, AreLines-unique}
use Rattle.lexical_lines.proofs.laws.lines_unique.Goals as goal

pub returns-clause-exists : goal.returns-clause-exists
returns-clause-exists c = AreLines-exist c.args.input.now

pub returns-clause-only : goal.returns-clause-only
returns-clause-only c = AreLines-unique c.args.input.now
