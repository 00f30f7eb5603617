-- The answers to an input are unique.
use Rattle.std.proofs.Common.{◌≡◌, ℕ, ◌+◌, ◌-◌, ◌^◌, ◌≤◌, min, Bool, List, [], ◌∷◌, ◌++◌, refl, sym, ap, ◌∙◌, ℤ, inl}
use Rattle.std.proofs.Common.{inr, ◌⊎◌, IsTrue, length-append}
use Rattle.std.proofs.Common.{append_assoc, arith}
use Rattle.std.specs.Prelude.{codes}
use Rattle.lexical_write_integer.specs.Text.{IsText}
use Rattle.lexical_num.specs.Sign.{sign_of}
use Rattle.lexical_write_integer.proofs.OfDigits.Numerals.{digits_unique}
use Rattle.lexical_lines.specs.declared.request.integer_type.IntegerType.{IntegerType}
use Rattle.lexical_lines.specs.Answer.{IsAnswer, WithNewline, IsBadLine, AreAnswersFrom, AnswersAll, AnswersEnded}
use Rattle.lexical_lines.specs.Lines.{AreLines, EndsLine}
use Rattle.lexical_lines.proofs.Runs.{AreAnswersFrom-push}
use Rattle.std.proofs.lemmas.List.{append-nil}
use Rattle.lexical_lines.specs.Request.{IsRequest, IsValue, requested_format}
use Rattle.lexical_lines.specs.RunOutcome.{BreaksOff}
use Rattle.lexical_lines.specs.Sink.{IsBeginning}
use Rattle.lexical_lines.proofs.Lines.{AreLines-longer, AreLines-more, AreLines-unique}
use Rattle.lexical_lines.proofs.Requests.{IsRequest-front, IsRequest-value, IsValue-parts, radix_decimal}
use Rattle.lexical_lines.proofs.Requests.{radix-stripped, value-stripped}

-- a text is the value of one number only
IsValue-number : {kind other : IntegerType} {number second : ℤ} {text : List ℕ} → IsValue kind number text
    → IsValue other second text → number ≡ second
IsValue-number h k = grind (arith, IsValue-parts, value-stripped)

-- a line makes one request only
pub IsRequest-unique : {kind other : IntegerType} {plus add : Bool} {radix base : ℕ} {number second : ℤ} {line : List ℕ}
    → IsRequest kind plus radix number line → IsRequest other add base second line
    → (plus ≡ add) × (radix ≡ base) × (number ≡ second)
IsRequest-unique {kind = kind} {plus = plus} {radix = radix} {base = base} h k =
    let (name, sign, rest) = IsRequest-front k kind _ _ plus h.whole refl (radix-stripped h) in
    let parts = IsRequest-value k h.radix_text h.value_text (sym rest) (radix_decimal h).bytes in (
      sign,
      sym (radix_decimal h).value ∙ rw (sym parts.0) at (radix_decimal k).value,
      IsValue-number h.value (rw (sym parts.1) at k.value),
    )

-- a number has at most one text in a requested format, with a required sign or without, in a radix of at least 2
IsText-unique : (number : ℤ) (radix : ℕ) (plus : Bool) → 2 ≤ radix → (a b : List ℕ)
    → IsText number (requested_format radix plus) a
    → IsText number (requested_format radix plus) b → a ≡ b
IsText-unique number radix plus h a b p q =
    p.whole ∙ ap (λ digits. sign_of number plus ++ digits)
    (digits_unique radix _ p.digits q.digits h p.magnitude q.magnitude) ∙ sym q.whole

-- if texts of a kind are unique, so are the lines made of them
WithNewline-unique : (Is : List ℕ → Type 0) (a b : List ℕ) → ((s t : List ℕ) → Is s → Is t → s ≡ t) → WithNewline Is a
    → WithNewline Is b → a ≡ b
WithNewline-unique Is a b only (s, p, e) (t, q, f) = e ∙ ap (λ text. text ++ 10 ∷ []) (only s t p q) ∙ sym f

-- at most one text is `bad line ` followed by the given line number in decimal
IsBadLine-unique : (n : ℕ) (a b : List ℕ) → IsBadLine n a → IsBadLine n b → a ≡ b
IsBadLine-unique n a b (s, p, e) (t, q, f) =
    e ∙ ap (λ digits. codes "bad line " ++ digits) (digits_unique 10 n s t (omega arith) p q) ∙ sym f

-- a line with a given number has at most one answer
IsAnswer-unique : (i : ℕ) (line a b : List ℕ) → IsAnswer i line a → IsAnswer i line b → a ≡ b
IsAnswer-unique i line a b (inl p) (inl q) =
    let same = IsRequest-unique p.request q.request in
    WithNewline-unique (IsText p.number (requested_format p.radix p.plus)) a b
    (IsText-unique p.number p.radix p.plus p.request.radix_valid.at_least_two) p.text
    (rw (same.0, same.1, same.2) q.text)
IsAnswer-unique i line a b (inl p) (inr q) = absurd (q.bad (p.kind, p.plus, p.radix, p.number, p.request))
IsAnswer-unique i line a b (inr p) (inl q) = absurd (p.bad (q.kind, q.plus, q.radix, q.number, q.request))
IsAnswer-unique i line a b (inr p) (inr q) =
    WithNewline-unique (IsBadLine (min i (2 ^ 64 - 1))) a b (IsBadLine-unique (min i (2 ^ 64 - 1))) p.told q.told

-- at most one text is the answers to given lines in order, if these are numbered from i on
AreAnswersFrom-unique : (i : ℕ) (all : List (List ℕ)) (a b : List ℕ) → AreAnswersFrom i all a
    → AreAnswersFrom i all b → a ≡ b
AreAnswersFrom-unique i [] a b p q = p ∙ sym q
AreAnswersFrom-unique i (line ∷ all) a b (x, xs, is, more, whole) (y, ys, is', more', whole') =
    whole ∙ ap (λ front. front ++ xs) (IsAnswer-unique i line x y is is')
    ∙ ap (λ rest. y ++ rest) (AreAnswersFrom-unique (i + 1) all xs ys more more') ∙ sym whole'

-- an input has at most one text of answers
pub AnswersAll-unique : (bytes a b : List ℕ) → AnswersAll bytes a → AnswersAll bytes b → a ≡ b
AnswersAll-unique bytes a b p q = AreAnswersFrom-unique 1 p.lines a b p.answered
    (rw (AreLines-unique bytes q.lines p.lines q.cut p.cut) at q.answered)

-- ---- answers that broke off are a prefix of the answers to the whole input

-- the answers to lines numbered from i on, which are in two parts, begin with the answers to the first of these parts
AreAnswersFrom-split : (i : ℕ) (front back : List (List ℕ)) (text : List ℕ) → AreAnswersFrom i (front ++ back) text
    → (first : List ℕ) × (rest : List ℕ) × AreAnswersFrom i front first × (text ≡ first ++ rest)
AreAnswersFrom-split i [] back text h = ([], text, refl, refl)
AreAnswersFrom-split i (line ∷ front) back text (answer, more, is, others, whole) =
    let (first, rest, answered, e) = AreAnswersFrom-split (i + 1) front back more others in (
      answer ++ first,
      rest,
      (answer, first, is, answered, refl),
      whole ∙ ap (λ bytes. answer ++ bytes) e
          ∙ sym (append_assoc answer first rest),
    )

-- the lines of the part that was read are the first lines of the whole input
lines_before : (is_ended : Bool) (bytes left : List ℕ) (all lines : List (List ℕ)) → (IsTrue is_ended → left ≡ [])
    → IsTrue is_ended ⊎ EndsLine bytes → AreLines bytes lines → AreLines (bytes ++ left) all
    → (others : List (List ℕ)) × (all ≡ lines ++ others)
lines_before is_ended bytes left all lines none (inl ended) p q =
    ([], AreLines-unique bytes all lines (rw (none ended, append-nil bytes) at q) p ∙ sym (append-nil lines))
lines_before is_ended bytes left all lines none (inr ends) p q =
    let (others, longer) = AreLines-more bytes left lines ends p in
    (others, AreLines-unique (bytes ++ left) all (lines ++ others) q longer)

-- answers that broke off are a proper prefix of the answers to the whole input, read to its end or not
pub BreaksOff-begins : (is_ended : Bool) (bytes left put text : List ℕ) → (IsTrue is_ended → left ≡ [])
    → BreaksOff is_ended bytes put → AnswersAll (bytes ++ left) text → IsBeginning put text
BreaksOff-begins is_ended bytes left put text none broke all =
    let (others, lines) = lines_before is_ended bytes left all.lines (broke.front ++ broke.last ∷ [])
    none broke.line_end broke.cut all.cut in
    let (first, more, answered, whole) = AreAnswersFrom-split 1 (broke.front ++ broke.last ∷ []) others text
    (rw lines at all.answered) in
    let same = AreAnswersFrom-unique 1 (broke.front ++ broke.last ∷ []) first (broke.answers ++ broke.answer) answered
    (AreAnswersFrom-push 1 broke.front broke.answers broke.last broke.answer _ (omega arith)
    broke.answered broke.last_answer) in
    let (rest, some, answer) = broke.beginning in (
      rest ++ more,
      omega (arith, length-append rest more),
      whole ∙ ap (λ bytes. bytes ++ more) (same ∙ ap (λ bytes. broke.answers ++ bytes) answer)
          ∙ regroup broke.answers broke.part rest more ∙ ap (λ bytes. bytes ++ (rest ++ more)) (sym broke.whole),
    )
  where
    regroup : (a b c d : List ℕ) → (a ++ (b ++ c)) ++ d ≡ (a ++ b) ++ (c ++ d)
    regroup a b c d = simp append_assoc

-- the answers to the lines that ended are a prefix of the answers to a longer input
pub AnswersEnded-begins : (bytes more put text : List ℕ) → AnswersEnded bytes put → AnswersAll (bytes ++ more) text
    → (rest : List ℕ) × (text ≡ put ++ rest)
AnswersEnded-begins bytes more put text (ended, rest, cut, answered) all =
    let (others, lines) = AreLines-longer more cut in
    let same = AreLines-unique (bytes ++ more) all.lines (ended ++ others) all.cut lines in
    let (first, last, answer, whole) = AreAnswersFrom-split 1 ended others text (rw same at all.answered) in
    (last, whole ∙ ap (λ front. front ++ last) (AreAnswersFrom-unique 1 ended first put answer answered))
