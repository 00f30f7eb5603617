use Rattle.std.proofs.Common.{◌≡◌, [], ◌∷◌, ◌∙◌, length, sym}
use Rattle.std.proofs.lemmas.List.{take_all}
use Rattle.std.proofs.lemmas.Result.{on_err_weaker}
use Rattle.lexical_lines.proofs.answer.answerer.Answerer.push.Goals as goal

-- the check finds this proof by itself, but with it the refusal of a mistake says what is wrong
pub returns-clause-ok : goal.returns-clause-ok
returns-clause-ok g c = c.push_all.ensures.ok

pub returns-clause-err : goal.returns-clause-err
returns-clause-err g c = on_err_weaker c.push_all.result (λ err read written h.
    let (front, some, begins, broke) = err read written h in
    let all : front ≡ c.args.byte ∷ [] = sym begins ∙ take_all (length front) (c.args.byte ∷ []) some in
    rw all at broke) c.push_all.ensures.err
