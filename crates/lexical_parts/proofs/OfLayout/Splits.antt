-- What two texts in a row have in common if they are equal, and which of two texts is the earlier one.
use Rattle.std.proofs.Common.{◌≡◌, ℕ, List, [], ◌∷◌, ◌++◌, length, take, drop, refl, sym, ap, ◌∙◌, arith}
use Rattle.std.specs.Prelude.{◌≢◌}
use Rattle.std.specs.List.{All}
use Rattle.std.specs.Cmp.Lexicographic.{slice_cmp}
use Rattle.std.specs.Ordering.{nat_cmp, ordering_then}
use Rattle.std.specs.declared.cmp.Ordering.{Ordering}
use Rattle.std.specs.declared.cmp.Ordering.TheVariants.{Less, Equal, Greater}
use Rattle.std.proofs.lemmas.List.{append_cancel_right, drop_at, take_at}
use Rattle.lexical_write_integer.specs.Order.{IsEarlier}
use Rattle.lexical_write_integer.specs.Sequence.{IsExactly, Then}
use Rattle.lexical_write_integer.proofs.OfTexts.Rows.{split}
use Rattle.lexical_write_integer.specs.InCommon.{HaveInCommon}

-- ---- texts whose first parts have the same width

-- if two texts in a row are the same as two others, and the first ones are equally long, both pairs are equal
pub halves : (f u g v : List ℕ) → f ++ u ≡ g ++ v → length f ≡ length g → (f ≡ g) × (u ≡ v)
halves f u g v whole long = (
  sym (take_at f u _ refl) ∙ ap (take (length f)) whole ∙ take_at g v _ (sym long),
  sym (drop_at f u _ refl) ∙ ap (drop (length f)) whole ∙ drop_at g v _ (sym long),
)

-- if one text is two texts in a row in two ways, with the same cut, the kinds on each side have a text in common
pub same_parts : {A B P Q : List ℕ → Type 0} (text : List ℕ) (s : Then A P text) (t : Then B Q text)
    → length s.first ≡ length t.first → HaveInCommon A B × HaveInCommon P Q
same_parts text s t long =
    let same = halves s.first s.second t.first t.second (sym s.whole ∙ t.whole) long in (
      record { text = s.first; is = s.is_first; also = rw same.0 t.is_first },
      record { text = s.second; is = s.is_second; also = rw same.1 t.is_second },
    )

-- if one text is two texts in a row in two ways, with the same bytes after them, the kinds before these bytes have a
-- text in common
pub same_before : {A B : List ℕ → Type 0} (end text : List ℕ) (s : Then A (IsExactly end) text)
    → Then B (IsExactly end) text
    → HaveInCommon A B
same_before end text s t =
    let same = append_cancel_right s.first t.first end
    (ap (λ e. s.first ++ e) (sym s.is_second) ∙ sym s.whole ∙ t.whole ∙ ap (λ e. t.first ++ e) t.is_second) in
    record { text = s.first; is = s.is_first; also = rw same t.is_first }

-- ---- texts that are split at their first separator p

module _ {A B P Q : List ℕ → Type 0} (p : ℕ) (none_in_A : (text : List ℕ) → A text → All (λ b. b ≢ p) text)
    (none_in_B : (text : List ℕ) → B text → All (λ b. b ≢ p) text) (text : List ℕ)
    (s : Then A (Then (IsExactly (p ∷ [])) P) text) (t : Then B (Then (IsExactly (p ∷ [])) Q) text) where
  separated : {R : List ℕ → Type 0} {rest : List ℕ} (x : Then (IsExactly (p ∷ [])) R rest) → rest ≡ p ∷ x.second
  separated x = x.whole ∙ ap (λ l. l ++ x.second) x.is_first

  same : (s.first ≡ t.first) × (s.is_second.second ≡ t.is_second.second)
  same = split p s.first t.first s.is_second.second t.is_second.second (none_in_A s.first s.is_first)
      (none_in_B t.first t.is_first)
      (ap (λ l. s.first ++ l) (sym (separated s.is_second)) ∙ sym s.whole ∙ t.whole
      ∙ ap (λ l. t.first ++ l) (separated t.is_second))

  -- the kinds before the separator have a text in common, and so have those after it
  pub same_split : HaveInCommon A B × HaveInCommon P Q
  same_split = (
    record { text = s.first; is = s.is_first; also = rw same.0 t.is_first },
    record { text = s.is_second.second; is = s.is_second.is_second; also = rw same.1 t.is_second.is_second },
  )

-- ---- numbers with leading zeros that decide an order

-- if a text is earlier than another of the same length, it is so before whatever follows each of them
pub earlier_before : (s t p q : List ℕ) → length s ≡ length t → IsEarlier s t → IsEarlier (s ++ p) (t ++ q)
earlier_before [] [] p q long less = absurd (cc)
earlier_before [] (d ∷ t) p q long less = absurd (omega arith)
earlier_before (c ∷ s) [] p q long less = absurd (omega arith)
earlier_before (c ∷ s) (d ∷ t) p q long less =
    by (nat_cmp c d) (slice_cmp nat_cmp s t) (slice_cmp nat_cmp (s ++ p) (t ++ q)) less
    (earlier_before s t p q (omega arith))
  where
    by : (o x y : Ordering) → ordering_then o x ≡ Less → (x ≡ Less → y ≡ Less) → ordering_then o y ≡ Less
    by Less x y less more = refl
    by Equal x y less more = more less
    by Greater x y less more = less
