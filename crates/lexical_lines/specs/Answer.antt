-- The answer to a line, and the answers to all lines of an input.
use Rattle.std.specs.Prelude.{◌≡◌, ◌⊎◌, ℕ, ◌+◌, ◌-◌, ◌^◌, min, Bool, List, [], ◌∷◌, ◌++◌, ℤ, codes}
use Rattle.lexical_write_integer.specs.Text.{IsDigits, IsText}
use Rattle.lexical_lines.specs.declared.request.integer_type.IntegerType.{IntegerType}
use Rattle.lexical_lines.specs.Lines.{IsCut, AreLines}
use Rattle.lexical_lines.specs.Request.{IsValidLine, IsRequest, requested_format}

-- the line is a text of this kind followed by a newline
abbrev pub WithNewline : (List ℕ → Type 0) → List ℕ → Type 0
WithNewline Is line = (text : List ℕ) × Is text × (line ≡ text ++ 10 ∷ [])

-- the text is `bad line ` followed by the line number in decimal
abbrev pub IsBadLine : ℕ → List ℕ → Type 0
IsBadLine line_number text = (digits : List ℕ) × IsDigits 10 line_number digits × (text ≡ codes "bad line " ++ digits)

-- the line is valid, and the answer is the requested text and a newline
pub record IsTextAnswer (line answer : List ℕ) : Type 0 where
  pub kind : IntegerType
  pub plus : Bool
  pub radix : ℕ
  pub number : ℤ
  pub request : IsRequest kind plus radix number line
  pub text : WithNewline (IsText number (requested_format radix plus)) answer

-- the line is valid, and its answer is this text and a newline
unfoldable pub IsAnsweredBy : List ℕ → List ℕ → Type 0
IsAnsweredBy line text = IsTextAnswer line (text ++ 10 ∷ [])

-- the line is not valid, and the answer names its number, or the largest number of 64 bits if that is less
pub record IsBadAnswer (i : ℕ) (line answer : List ℕ) : Type 0 where
  pub bad : IsValidLine line → ⊥
  pub told : WithNewline (IsBadLine (min i (2 ^ 64 - 1))) answer

-- this is the answer to the line with number i
abbrev pub IsAnswer : ℕ → List ℕ → List ℕ → Type 0
IsAnswer i line answer = IsTextAnswer line answer ⊎ IsBadAnswer i line answer

-- the text is the answers to these lines in order, if the first line has number i
abbrev pub AreAnswersFrom : ℕ → List (List ℕ) → List ℕ → Type 0
AreAnswersFrom i [] text = text ≡ []
AreAnswersFrom i (line ∷ more) text =
    (answer : List ℕ) × (rest : List ℕ) × IsAnswer i line answer × AreAnswersFrom (i + 1) more rest
    × (text ≡ answer ++ rest)

-- the text is the answers to these lines in order, if the first line has number 1
abbrev pub AreAnswers : List (List ℕ) → List ℕ → Type 0
AreAnswers lines text = AreAnswersFrom 1 lines text

-- the text is the answers to all lines of the input
pub record AnswersAll (bytes text : List ℕ) : Type 0 where
  pub lines : List (List ℕ)
  pub cut : AreLines bytes lines
  pub answered : AreAnswers lines text

-- the text is the answers to the lines of the input that end with a newline
abbrev pub AnswersEnded : List ℕ → List ℕ → Type 0
AnswersEnded bytes text = (ended : List (List ℕ)) × (rest : List ℕ) × IsCut bytes ended rest × AreAnswers ended text
