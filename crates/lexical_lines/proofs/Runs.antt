-- What an answerer has done so far, and how a run ends.
use Rattle.std.proofs.Common.{◌≡◌, ◌↔◌, ℕ, ◌+◌, ◌-◌, ◌^◌, min, Bool, true, false, List, [], ◌∷◌, ◌++◌, length, refl}
use Rattle.std.proofs.Common.{sym, ap, ◌∙◌, append_assoc, IsTrue}
use Rattle.std.proofs.Common.{length-append, inl, inr, ◌&&◌, ◌⊎◌, Some, arith}
use Rattle.std.specs.List.{All}
use Rattle.std.proofs.lemmas.Bool.Decides.{Decides-and, Decides-like}
use Rattle.std.proofs.lemmas.List.Elements.{All-pop, All-push}
use Rattle.lexical_lines.specs.declared.answer.answerer.Answerer.{Answerer}
use Rattle.lexical_lines.specs.Answer.{IsAnswer, AreAnswersFrom, AnswersAll, AnswersEnded}
use Rattle.lexical_lines.specs.Answerer.{AnswererState}
use Rattle.lexical_lines.specs.Line.{short_line}
use Rattle.lexical_lines.specs.Lines.{AreLines, EndsLine, NoNewline}
use Rattle.lexical_lines.specs.Request.{IsValidLine}
use Rattle.lexical_lines.specs.RunOutcome.{BreaksOff}
use Rattle.lexical_lines.specs.Sink.{IsBeginning}
use Rattle.lexical_lines.proofs.Requests.{short_line-is}
use Rattle.lexical_lines.proofs.Lines.{IsCut-more, IsCut-newline, AreLines-ended, AreLines-newline, AreLines-rest}
use Rattle.lexical_lines.proofs.Lines.{AreLines-unique}
use Rattle.std.proofs.lemmas.List.{append-nil}

-- ---- the answer to the next line

-- the answers to some lines, and then the answer to the next line, are the answers to all of these
pub AreAnswersFrom-push : (i : ℕ) (ended : List (List ℕ)) (answers line answer : List ℕ) (number : ℕ)
    → number ≡ i + length ended
    → AreAnswersFrom i ended answers → IsAnswer number line answer
    → AreAnswersFrom i (ended ++ line ∷ []) (answers ++ answer)
AreAnswersFrom-push i [] answers line answer number here h is =
    let same : number ≡ i = omega arith in
    (answer, [], rw same at is, refl, ap (λ xs. xs ++ answer) h ∙ sym (append-nil answer))
AreAnswersFrom-push i (first ∷ ended) answers line answer number here (a, rest, is_first, others, whole) is =
    let more = AreAnswersFrom-push (i + 1) ended rest line answer number (omega arith) others is in
    (a, rest ++ answer, is_first, more, ap (λ xs. xs ++ answer) whole ∙ append_assoc a rest answer)

-- an answer to a line with the number i, or 2 ^ 64 - 1 if that is less, is also an answer to it with the number i
IsAnswer-counted : (i line_number : ℕ) (line answer : List ℕ) → line_number ≡ min i (2 ^ 64 - 1)
    → IsAnswer line_number line answer → IsAnswer i line answer
IsAnswer-counted i line_number line answer e is = grind arith

-- a run that broke off after some bytes also broke off after others that have the same lines
BreaksOff-same_lines : {was is : Bool} {bytes read put : List ℕ} → IsTrue is ⊎ EndsLine read
    → ((all : List (List ℕ)) → AreLines bytes all → AreLines read all)
    → BreaksOff was bytes put → BreaksOff is read put
BreaksOff-same_lines line_end same h = grind arith

module _ {bytes written : List ℕ} {answerer : Answerer} (h : AnswererState bytes written answerer) where
  -- all lines up to the next are valid if and only if those before it and it are
  pub valid_after : (is_valid : Bool) → (IsTrue is_valid ↔ IsValidLine h.rest)
      → IsTrue (answerer.all_valid && is_valid) ↔ All IsValidLine (h.ended ++ h.rest ∷ [])
  valid_after is_valid valid = Decides-like _ (λ parts. All-push IsValidLine h.ended h.rest parts.0 parts.1)
      (All-pop IsValidLine _ h.ended (Some h.rest) refl) (Decides-and answerer.all_valid is_valid h.valid valid)

  -- more bytes of a line
  abbrev pub AnswererState-more : (more : List ℕ) (next : Answerer) → NoNewline more
      → next.line ≡ short_line (h.rest ++ more)
      → next.line_number ≡ answerer.line_number → next.all_valid ≡ answerer.all_valid
      → AnswererState (bytes ++ more) written next
  AnswererState-more more next inside line number valid = record {
    ended = h.ended;
    rest = h.rest ++ more;
    cut = IsCut-more more inside h.cut;
    answered = h.answered;
    number = number ∙ h.number;
    valid = rw (sym valid) at h.valid;
    last = line;
  }

  -- a line has ended and is answered
  pub AnswererState-line : (answer : List ℕ) (next : Answerer) (is_valid : Bool)
      → IsAnswer answerer.line_number h.rest answer
      → (IsTrue is_valid ↔ IsValidLine h.rest) → next.line ≡ short_line []
      → next.line_number ≡ min (answerer.line_number + 1) (2 ^ 64 - 1)
      → next.all_valid ≡ (answerer.all_valid && is_valid) → AnswererState (bytes ++ 10 ∷ []) (written ++ answer) next
  AnswererState-line answer next is_valid is valid line number all = record {
    ended = h.ended ++ h.rest ∷ [];
    rest = [];
    cut = IsCut-newline h.cut;
    answered = AreAnswersFrom-push 1 h.ended written h.rest answer _ (omega arith) h.answered
        (IsAnswer-counted (length h.ended + 1) answerer.line_number h.rest answer h.number is);
    number = omega (arith, number, h.number, length-append h.ended (h.rest ∷ []));
    valid = rw (sym all) at (valid_after is_valid valid);
    last = line;
  }

  -- ---- the end of the input

  -- the lines that ended are answered
  pub answers_ended : AnswersEnded bytes written
  answers_ended = (h.ended, h.rest, h.cut, h.answered)

  -- if the answerer keeps no bytes, these are all lines
  pub answers_at_newline : answerer.line ≡ short_line [] → AnswersAll bytes written
  answers_at_newline none = record {
    lines = h.ended;
    cut = AreLines-ended h.cut (short_line-is (sym none ∙ h.last));
    answered = h.answered;
  }

  -- the sink failed during the answer to the line that a newline ends
  pub BreaksOff-line : (answer part : List ℕ) → IsAnswer answerer.line_number h.rest answer → IsBeginning part answer
      → BreaksOff false (bytes ++ 10 ∷ []) (written ++ part)
  BreaksOff-line answer part is begins = record {
    line_end = inr (bytes, refl);
    front = h.ended;
    last = h.rest;
    answers = written;
    part = part;
    answer = answer;
    cut = AreLines-ended (IsCut-newline h.cut) refl;
    answered = h.answered;
    last_answer = IsAnswer-counted (length h.ended + 1) answerer.line_number h.rest answer h.number is;
    beginning = begins;
    whole = refl;
  }

  -- ---- bytes after the last newline, whose answer is that to the line that a newline would end

  -- a newline after these bytes does not change the lines
  pub lines_at_rest : {all : List (List ℕ)} → (answerer.line ≡ short_line [] → ⊥) → AreLines (bytes ++ 10 ∷ []) all
      → AreLines bytes all
  lines_at_rest some are = rw (AreLines-unique _ _ _ are (AreLines-ended (IsCut-newline h.cut) refl))
      (AreLines-rest h.cut (λ empty. some (h.last ∙ ap short_line empty)))

  -- what is answered after a newline behind the input is the answers to the input
  pub answers_at_rest : {put : List ℕ} {next : Answerer} → (answerer.line ≡ short_line [] → ⊥)
      → AnswererState (bytes ++ 10 ∷ []) put next
      → AnswersAll bytes put
  answers_at_rest some k = record {
    lines = k.ended;
    cut = lines_at_rest some (AreLines-newline bytes k.cut);
    answered = k.answered;
  }

  -- a run that broke off at a newline behind the input broke off at the end of the input
  pub BreaksOff-rest : {put : List ℕ} → (answerer.line ≡ short_line [] → ⊥) → BreaksOff false (bytes ++ 10 ∷ []) put
      → BreaksOff true bytes put
  BreaksOff-rest some broke = BreaksOff-same_lines (inl refl) (λ all. lines_at_rest some) broke

-- a run that broke off after a newline also broke off if the input has ended
pub BreaksOff-open : (is_ended : Bool) {bytes put : List ℕ} → BreaksOff false bytes put → BreaksOff is_ended bytes put
BreaksOff-open is_ended h =
    BreaksOff-same_lines (elim h.line_end [ inl ended ↦ absurd (cc ended) | inr newline ↦ inr newline ])
    (λ all are. are) h
