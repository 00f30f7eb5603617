use Rattle.lexical_lines.proofs.UniqueAnswers.{AnswersAll-unique}
use Rattle.lexical_lines.proofs.laws.answers_unique.Goals as goal

pub returns : goal.returns
returns c = AnswersAll-unique c.args.input.now c.args.a.now c.args.b.now c.requires.a c.requires.b
