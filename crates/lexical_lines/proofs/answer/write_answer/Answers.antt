use Rattle.std.proofs.Common.{◌≡◌, ◌-◌, ◌^◌, min, inr, false, IsTrue, arith}
use Rattle.lexical_lines.proofs.answer.write_answer.Goals as goal

pub returns-in-None-clause-answer : goal.returns-in-None-clause-answer
returns-in-None-clause-answer c = λ bytes is.
    let written = c.write_bad_line.ensures in
    let number : c.args.line_number ≡ min c.args.line_number (2 ^ 64 - 1) = omega (arith, c.ranges.line_number.fits) in
    record {
      text = written.text;
      is = inr (record { bad = c.in-None.ensures.none bytes is; told = rw number at written.is });
      front = written.front;
      count = written.count;
    }

-- the check finds this proof by itself, but with an answer the refusal of a mistake says what is wrong
pub returns-in-None-clause-valid : goal.returns-in-None-clause-valid
returns-in-None-clause-valid c = λ bytes is.
    let no : IsTrue false → ⊥ = λ yes. cc in
    (λ yes. absurd (no yes), λ valid. absurd (c.in-None.ensures.none bytes is valid))
