-- An input is cut into lines in exactly one way.
use Rattle.std.proofs.lemmas.Grind.{common_steps}
use Rattle.std.proofs.Common.{◌≡◌, ◌≢◌, ℕ, List, [], ◌∷◌, ◌++◌, refl, sym, ap, ◌∙◌, append_assoc, inl, inr, arith}
use Rattle.std.proofs.lemmas.Bool.{cases_eq}
use Rattle.std.specs.List.{All}
use Rattle.std.proofs.lemmas.List.{append-nil}
use Rattle.std.proofs.lemmas.List.Elements.{All-nil, All-cons, All-head, All-tail}
use Rattle.lexical_lines.specs.Lines.{IsCut, AreLines, EndsLine, NoNewline, with_newlines, rest_line}
use Rattle.lexical_lines.proofs.Splits.{Lacks-not, cut_unique}

-- the byte is not a newline
abbrev pub IsInside : ℕ → Type 0
IsInside byte = byte ≢ 10

-- ---- more bytes

-- an empty input has no line and no rest
pub IsCut-none : IsCut [] [] []
IsCut-none = record { whole = refl; each = All-nil NoNewline; rest_inside = All-nil IsInside }

-- bytes without a newline belong to the rest
pub IsCut-more : {bytes : List ℕ} {ended : List (List ℕ)} {rest : List ℕ} (more : List ℕ) → NoNewline more
    → IsCut bytes ended rest
    → IsCut (bytes ++ more) ended (rest ++ more)
IsCut-more {ended = ended} {rest = rest} more inside h = grind (arith, common_steps)

-- a newline ends the rest, which is then the last of the lines that ended
pub IsCut-newline : {bytes : List ℕ} {ended : List (List ℕ)} {rest : List ℕ} → IsCut bytes ended rest
    → IsCut (bytes ++ 10 ∷ []) (ended ++ rest ∷ []) []
IsCut-newline {ended = ended} {rest = rest} h = grind (arith, common_steps)

-- ---- the lines of a cut

-- if the rest is empty, all lines have ended
pub AreLines-ended : {bytes : List ℕ} {ended : List (List ℕ)} {rest : List ℕ} → IsCut bytes ended rest → rest ≡ []
    → AreLines bytes ended
AreLines-ended {ended = ended} {rest = rest} cut none = grind (arith, append-nil)

-- if the rest is not empty, it is the last line
pub AreLines-rest : {bytes : List ℕ} {ended : List (List ℕ)} {rest : List ℕ} → IsCut bytes ended rest → (rest ≡ [] → ⊥)
    → AreLines bytes (ended ++ rest ∷ [])
AreLines-rest {ended = ended} {rest = rest} cut some = grind arith

-- ---- every input has a cut

-- the lines that ended are the first lines of a longer input
IsCut-longer : {bytes : List ℕ} {ended : List (List ℕ)} {rest : List ℕ} (more : List ℕ) → IsCut bytes ended rest
    → (others : List (List ℕ)) × (last : List ℕ) × IsCut (bytes ++ more) (ended ++ others) last
IsCut-longer {bytes} {ended} {rest} [] h = ([], rest, rw (append-nil bytes, append-nil ended) h)
IsCut-longer {bytes} {ended} {rest} (byte ∷ more) h = elim (cases_eq byte 10) [
  | inl newline ↦
      let (others, last, cut) = IsCut-longer more (IsCut-newline h) in (
        rest ∷ others,
        last,
        rw (
          newline,
          sym (append_assoc bytes (10 ∷ []) more),
          sym (append_assoc ended (rest ∷ []) others),
        ) cut,
      )
  | inr inside ↦
      let (others, last, cut) =
      IsCut-longer more (IsCut-more (byte ∷ []) (All-cons IsInside byte [] inside (All-nil IsInside)) h) in
      (others, last, rw (sym (append_assoc bytes (byte ∷ []) more)) cut)
]

-- every input can be cut into lines, with a newline after each, and a rest, such that neither a line nor the rest
-- contains a newline
IsCut-exists : (bytes : List ℕ) → (ended : List (List ℕ)) × (rest : List ℕ) × IsCut bytes ended rest
IsCut-exists bytes = IsCut-longer bytes IsCut-none

-- the lines that ended in these bytes are the first lines of every longer input
pub AreLines-longer : {bytes : List ℕ} {ended : List (List ℕ)} {rest : List ℕ} (more : List ℕ) → IsCut bytes ended rest
    → (others : List (List ℕ)) × AreLines (bytes ++ more) (ended ++ others)
AreLines-longer {ended = ended} more cut =
    let (others, last, longer) = IsCut-longer more cut in (
      others ++ rest_line last,
      record {
        ended = ended ++ others;
        rest = last;
        cut = longer;
        are = sym (append_assoc ended others (rest_line last));
      },
    )

-- every input has lines
pub AreLines-exist : (bytes : List ℕ) → (all : List (List ℕ)) × AreLines bytes all
AreLines-exist bytes =
    let (ended, rest, cut) = IsCut-exists bytes in
    (ended ++ rest_line rest, record { ended = ended; rest = rest; cut = cut; are = refl })

-- ---- no input has two cuts

-- if neither lines nor rests contain a newline, and two lists of lines, with a newline after each line, are the same
-- bytes with their rests after them, the lists are equal and so are the rests
cuts_unique : (ended other : List (List ℕ)) (rest last : List ℕ) → All NoNewline ended → All NoNewline other
    → NoNewline rest → NoNewline last
    → with_newlines ended ++ rest ≡ with_newlines other ++ last → (ended ≡ other) × (rest ≡ last)
cuts_unique [] [] rest last each_ended each_other inside within e = (refl, e)
cuts_unique [] (line ∷ other) rest last each_ended each_other inside within e =
    absurd (Lacks-not 10 line (with_newlines other ++ last) (rw (simp append_assoc at e) at inside))
cuts_unique (line ∷ ended) [] rest last each_ended each_other inside within e =
    absurd (Lacks-not 10 line (with_newlines ended ++ rest) (rw (simp append_assoc at (sym e)) at within))
cuts_unique (line ∷ ended) (first ∷ other) rest last each_ended each_other inside within e =
    let both = cut_unique 10 line _ first _ (All-head NoNewline line ended each_ended)
    (All-head NoNewline first other each_other) (simp append_assoc at e) in
    let more = cuts_unique ended other rest last (All-tail NoNewline line ended each_ended)
    (All-tail NoNewline first other each_other) inside within both.1 in
    (cc (both.0, more.0), more.1)

-- an input has one list of lines that ended, and one rest
pub IsCut-unique : {bytes : List ℕ} {ended other : List (List ℕ)} {rest last : List ℕ} → IsCut bytes ended rest
    → IsCut bytes other last
    → (ended ≡ other) × (rest ≡ last)
IsCut-unique p q = cuts_unique _ _ _ _ p.each q.each p.rest_inside q.rest_inside (sym p.whole ∙ q.whole)

-- an input has one list of all its lines
pub AreLines-unique : (bytes : List ℕ) (all other : List (List ℕ)) → AreLines bytes all → AreLines bytes other
    → all ≡ other
AreLines-unique bytes all other p q =
    let same = IsCut-unique p.cut q.cut in
    p.are ∙ ap (λ ended. ended ++ rest_line p.rest) same.0 ∙ ap (λ rest. q.ended ++ rest_line rest) same.1 ∙ sym q.are

-- if the last byte is a newline, it ends the last line
pub AreLines-newline : (bytes : List ℕ) {ended : List (List ℕ)} {rest : List ℕ} → IsCut (bytes ++ 10 ∷ []) ended rest
    → AreLines (bytes ++ 10 ∷ []) ended
AreLines-newline bytes cut =
    let (lines, last, front) = IsCut-exists bytes in
    AreLines-ended cut (IsCut-unique cut (IsCut-newline front)).1

-- the lines of an input that ends with a newline are the first lines of a longer input
pub AreLines-more : (bytes more : List ℕ) (all : List (List ℕ)) → EndsLine bytes → AreLines bytes all
    → (others : List (List ℕ)) × AreLines (bytes ++ more) (all ++ others)
AreLines-more bytes more all (front, ends) are =
    let (lines, last, cut) = IsCut-exists front in
    let whole : IsCut bytes (lines ++ last ∷ []) [] = rw ends (IsCut-newline cut) in
    rw (AreLines-unique bytes all (lines ++ last ∷ []) are (AreLines-ended whole refl)) (AreLines-longer more whole)
