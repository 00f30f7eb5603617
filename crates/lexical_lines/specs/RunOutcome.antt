-- The outcome of a run over the lines of an input.
use Rattle.std.specs.Prelude.{◌≡◌, ◌⊎◌, ℕ, ◌+◌, List, [], ◌∷◌, ◌++◌, length, drop, Bool, ◌↔◌, IsTrue, All}
use Rattle.lexical_lines.specs.Answer.{IsAnswer, AreAnswers, AnswersAll, AnswersEnded}
use Rattle.lexical_lines.specs.Lines.{AreLines, EndsLine}
use Rattle.lexical_lines.specs.Request.{IsValidLine}
use Rattle.lexical_lines.specs.Sink.{IsBeginning}

-- the elements that were appended to a list
abbrev pub added : List ℕ → List ℕ → List ℕ
added before after = drop (length before) after

-- `all_valid` is whether all lines of the input are valid
pub record ReportsAllValid (bytes : List ℕ) (all_valid : Bool) : Type 0 where
  pub lines : List (List ℕ)
  pub cut : AreLines bytes lines
  pub valid : IsTrue all_valid ↔ All IsValidLine lines

-- the input was read to the end of a line. What was written is the answers to all its lines except the last, and then a
-- proper prefix of the answer to the last
pub record BreaksOff (is_ended : Bool) (bytes put : List ℕ) : Type 0 where
  pub line_end : IsTrue is_ended ⊎ EndsLine bytes
  pub front : List (List ℕ)
  pub last : List ℕ
  pub answers : List ℕ
  pub part : List ℕ
  pub answer : List ℕ
  pub cut : AreLines bytes (front ++ last ∷ [])
  pub answered : AreAnswers front answers
  pub last_answer : IsAnswer (length front + 1) last answer
  pub beginning : IsBeginning part answer
  pub whole : put ≡ answers ++ part

-- ---- how a run ends. `before` and `after` are the numbers of failures of the source and of the sink

-- no device failed, the source reported its end, and all lines are answered
pub record RunAnswered (before after : ℕ × ℕ) (is_ended : Bool) (bytes put : List ℕ) (all_valid : Bool) : Type 0 where
  pub source : after.0 ≡ before.0
  pub sink : after.1 ≡ before.1
  pub ended : IsTrue is_ended
  pub answers : AnswersAll bytes put
  pub valid : ReportsAllValid bytes all_valid

-- the source failed, and all lines that ended are answered
pub record SourceFailed (before after : ℕ × ℕ) (bytes put : List ℕ) : Type 0 where
  pub source : after.0 ≡ before.0 + 1
  pub sink : after.1 ≡ before.1
  pub answers : AnswersEnded bytes put

-- the sink failed during the answer to the last line
pub record SinkFailed (before after : ℕ × ℕ) (is_ended : Bool) (bytes put : List ℕ) : Type 0 where
  pub source : after.0 ≡ before.0
  pub sink : after.1 ≡ before.1 + 1
  pub answers : BreaksOff is_ended bytes put
