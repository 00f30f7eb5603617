use Rattle.lexical_lines.proofs.Newlines.{none_found, first_found}
use Rattle.lexical_lines.proofs.answer.newline.newline_in.Goals as goal

pub returns-then-found-eq0-clause-none : goal.returns-then-found-eq0-clause-none
returns-then-found-eq0-clause-none c = none_found c.args.word c.ranges.word.fits c.if-found-eq0.true

pub returns-else-found-eq0-clause-found : goal.returns-else-found-eq0-clause-found
returns-else-found-eq0-clause-found c = first_found c.args.word c.ranges.word.fits c.if-found-eq0.false
