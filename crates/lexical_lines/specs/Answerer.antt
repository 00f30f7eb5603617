-- The state of an answerer, and what its calls do to a sink.
use Rattle.std.specs.Prelude.{◌≡◌, ℕ, ◌+◌, ◌-◌, ◌^◌, min, List, ◌++◌, length, Result, ◌↔◌, IsTrue, All}
use Rattle.lexical_lines.specs.declared.answer.answerer.Answerer.{Answerer}
use Rattle.lexical_lines.specs.Answer.{AreAnswers}
use Rattle.lexical_lines.specs.Line.{short_line}
use Rattle.lexical_lines.specs.Lines.{IsCut}
use Rattle.lexical_lines.specs.Request.{IsValidLine}
use Rattle.lexical_lines.specs.RunOutcome.{added}
use Rattle.lexical_lines.specs.Source.{failures_of}

-- the lines that ended in `bytes`, whose answers are `written`, and the rest, which the answerer keeps
pub record AnswererState (bytes written : List ℕ) (answerer : Answerer) : Type 0 where
  pub ended : List (List ℕ)
  pub rest : List ℕ
  pub cut : IsCut bytes ended rest
  pub answered : AreAnswers ended written
  pub number : answerer.line_number ≡ min (length ended + 1) (2 ^ 64 - 1)
  pub valid : IsTrue answerer.all_valid ↔ All IsValidLine ended
  pub last : answerer.line ≡ short_line rest

-- the answerer has received `bytes`. What it has written is the answers to the lines that ended, and it keeps the rest.
-- A caller's proof only passes this on from call to call, and sees no part of it
unfoldable pub HasAnswered : List ℕ → List ℕ → Answerer → Type 0
HasAnswered bytes written answerer = AnswererState bytes written answerer

-- the call only appends to what its sink has taken, and the sink failed once if the result is an `Err`, otherwise never
pub record PutsMore {K A E : Type 0} (taken : K → List ℕ) (failure_count : K → ℕ) (keeps : K → K → Type 0)
    (old new : K) (result : Result A E) : Type 0 where
  pub longer : taken new ≡ taken old ++ added (taken old) (taken new)
  pub failures : failure_count new ≡ failure_count old + failures_of result
  pub kept : keeps old new
