-- Texts that are written to a writer one after another.
use Rattle.std.proofs.Common.{replicate, ◌/◌, ◌-◌, ◌≡◌, ℕ, ◌+◌, ◌<◌, List, [], ◌∷◌, ◌++◌, length, take, get_or, refl}
use Rattle.std.proofs.Common.{sym, ap, ◌∙◌, arith}
use Rattle.std.proofs.Common.{length-append, subst}
use Rattle.std.proofs.Output.{writes_in_calls_append, writes_in_calls_nil, writes_in_calls_single}
use Rattle.std.proofs.Output.{has_written_styled_append, has_written_styled_nil}
use Rattle.std.specs.List.{FoldsTo, concat}
use Rattle.std.proofs.lemmas.List.{take_more, length-take-le}
use Rattle.std.specs.Fmt.{HasWritten, HasWrittenStyled, IsFlush, IsPlainFormatter, DisplaysOnOk, DisplaysStyledOnOk}
use Rattle.std.specs.Fmt.{WritesInCalls, formatter_spec, styled_text}
use Rattle.std.proofs.Common.{ltb, map}
use Rattle.std.proofs.lemmas.Bool.{cond_both, ltb-true}
use Rattle.std.proofs.lemmas.List.{map-append}
use Rattle.std.specs.Borrow.{MutBor}
use Rattle.std.specs.Char.{to_ascii_lowercase}
use Rattle.std.specs.declared.fmt.Formatter.{Formatter}
use Rattle.lexical_write_integer.specs.Sequence.{AreJoined, IsExactly}
use Rattle.lexical_write_integer.proofs.OfTexts.Joins.{Leads, AreJoined-push}
use Rattle.lexical_parts.specs.Column.{IsAtLeft, IsAtRight, IsCentered}
use Rattle.lexical_parts.specs.Length.{IsOfLength, IsOnly}
use Rattle.std.specs.Option.{IfSome, option_map}
use Rattle.std.specs.Prelude.{Option, Some, None, Result, IsOk}
use Rattle.std.specs.declared.fmt.Error.{Error}
use Rattle.lexical_parts.specs.Sequence.{◌then◌}
use Rattle.lexical_parts.specs.ShownParts.{IsAligned, ShowsSome, WritesSome, aligned_text}

-- a text of the first kind is written, and then one of the second
pub WritesSome-then : {W : Type 0} (took : W → List ℕ → W → Type 0) (IsFirst IsSecond : List ℕ → Type 0) (f g h : W) →
    WritesSome took IsFirst f g → WritesSome took IsSecond g h → WritesSome took (IsFirst then IsSecond) f h
WritesSome-then took IsFirst IsSecond f g h first second = record {
  text = first.text ++ second.text;
  is = record { first = first.text; second = second.text; is_first = first.is; is_second = second.is; whole = refl };
  wrote = writes_in_calls_append _ _ _ _ _ _ first.wrote second.wrote;
}

-- element `i` is written after the texts of the elements before it, and after what precedes it
pub WritesSome-joined : {W : Type 0} (took : W → List ℕ → W → Type 0) {A : Type 0} (IsOf : A → List ℕ → Type 0)
    (separator lead : List ℕ) (xs : List A) {i : ℕ} {y : A} (f g h k : W) →
    i < length xs → y ≡ get_or xs i y → Leads separator i lead
    → WritesSome took (AreJoined IsOf separator (take i xs)) f g →
    WritesInCalls took g lead h → WritesSome took (IsOf y) h k
    → WritesSome took (AreJoined IsOf separator (take (i + 1) xs)) f k
WritesSome-joined took IsOf separator lead xs {i} {y} f g h k inside is leads texts lead_is part =
    let one_longer : take (i + 1) xs ≡ take i xs ++ y ∷ [] =
    take_more xs i y inside ∙ ap (λ x. take i xs ++ x ∷ []) (sym is) in
    let leads' : Leads separator (length (take i xs)) lead = rw (length-take-le i xs (omega arith)) leads in
    let added = WritesSome-then took (IsExactly lead) (IsOf y) g h k
    (record { text = lead; is = refl; wrote = lead_is }) part in
    rw one_longer (record {
      text = texts.text ++ added.text;
      is = AreJoined-push IsOf separator lead (take i xs) y texts.text added.text leads' texts.is added.is;
      wrote = writes_in_calls_append _ _ _ _ _ _ texts.wrote added.wrote;
    })

-- copies of the fill are written, and then a text of this length
pub WritesSome-right : {W : Type 0} (took : W → List ℕ → W → Type 0) (Is : List ℕ → Type 0) (width fill count : ℕ)
    (f g h : W) →
    WritesInCalls took f (replicate (width - count) fill) g → WritesSome took (IsOfLength Is count) g h
    → WritesSome took (IsAtRight width fill Is) f h
WritesSome-right took Is width fill count f g h filled cell = record {
  text = replicate (width - count) fill ++ cell.text;
  is = record {
    cell = cell.text;
    is = cell.is.is;
    whole = ap (λ n. replicate (width - n) fill ++ cell.text) (sym cell.is.counted);
  };
  wrote = writes_in_calls_append _ _ _ _ _ _ filled cell.wrote;
}

-- a text of this length is written, and then copies of the fill
pub WritesSome-left : {W : Type 0} (took : W → List ℕ → W → Type 0) (Is : List ℕ → Type 0) (width fill count : ℕ)
    (f g h : W) →
    WritesSome took (IsOfLength Is count) f g → WritesInCalls took g (replicate (width - count) fill) h
    → WritesSome took (IsAtLeft width fill Is) f h
WritesSome-left took Is width fill count f g h cell filled = record {
  text = cell.text ++ replicate (width - count) fill;
  is = record {
    cell = cell.text;
    is = cell.is.is;
    whole = ap (λ n. cell.text ++ replicate (width - n) fill) (sym cell.is.counted);
  };
  wrote = writes_in_calls_append _ _ _ _ _ _ cell.wrote filled;
}

-- copies of the fill, a text of this length, and the other copies
pub WritesSome-centered : {W : Type 0} (took : W → List ℕ → W → Type 0) (Is : List ℕ → Type 0) (width fill count : ℕ)
    (f g h k : W) →
    WritesInCalls took f (replicate ((width - count) / 2) fill) g → WritesSome took (IsOfLength Is count) g h
    → WritesInCalls took h (replicate (width - count - (width - count) / 2) fill) k
    → WritesSome took (IsCentered width fill Is) f k
WritesSome-centered took Is width fill count f g h k before cell after = record {
  text = (replicate ((width - count) / 2) fill ++ cell.text) ++ replicate (width - count - (width - count) / 2) fill;
  is = record {
    cell = cell.text;
    is = cell.is.is;
    whole = ap (λ n. (replicate ((width - n) / 2) fill ++ cell.text) ++ replicate (width - n - (width - n) / 2) fill)
        (sym cell.is.counted);
  };
  wrote = writes_in_calls_append _ _ _ _ _ _ (writes_in_calls_append _ _ _ _ _ _ before cell.wrote) after;
}

-- a text that is written with one call
pub written_in_one_piece : {W : Type 0} (took : W → List ℕ → W → Type 0) (Is : List ℕ → Type 0) (text : List ℕ)
    (f g : W) → Is text → took f text g
    → WritesSome took Is f g
written_in_one_piece took Is text f g is wrote =
    record { text = text; is = is; wrote = writes_in_calls_single _ _ _ _ wrote }

-- a relation that holds of no bytes, and of texts in a row, holds of what some calls write together
module _ {W : Type 0} (took : W → List ℕ → W → Type 0) (nothing : (w : W) → took w [] w)
    (both : (w v u : W) (a b : List ℕ) → took w a v → took v b u → took w (a ++ b) u) where
  folds : (w : W) (parts : List (List ℕ)) (v : W) → FoldsTo took w parts v → took w (concat parts) v
  folds w [] v same = subst (took w []) same (nothing w)
  folds w (x ∷ xs) v p = both w p.0 v x (concat xs) p.1 (folds p.0 xs v p.2)

  -- such a relation holds of the whole text of the calls
  pub closed_calls : (w v : W) (text : List ℕ) → WritesInCalls took w text v → took w text v
  closed_calls w v text calls = subst (λ b. took w b v) calls.whole (folds w calls.parts v calls.calls)

-- what some calls write to a formatter through a reference
abbrev pub ThroughGives : {W T : Type 0} (took : W → List ℕ → W → Type 0) → (T → MutBor (Formatter W)) → T
    → List ℕ → T → Type 0
ThroughGives took in_it s bytes t =
    ((in_it t).ghost_name ≡ (in_it s).ghost_name)
    × (IsFlush (in_it s).now → HasWrittenStyled took (in_it s).now bytes (in_it t).now)

-- calls through a reference, one after the other, do what one call with their whole text does
pub through_closed : {W T : Type 0} (took : W → List ℕ → W → Type 0) (in_it : T → MutBor (Formatter W)) (s t : T)
    (text : List ℕ)
    → WritesInCalls (ThroughGives took in_it) s text t → ThroughGives took in_it s text t
through_closed took in_it = closed_calls (ThroughGives took in_it)
    (λ s. (refl, λ flush. has_written_styled_nil _ _ flush))
    (λ s t u a b first second. (
      second.0 ∙ first.0,
      λ flush. let one = first.1 flush in has_written_styled_append _ _ _ _ _ _ one (second.1 one.flush),
    ))

-- what some calls write in lowercase
abbrev pub LoweringGives : {W T : Type 0} (took : W → List ℕ → W → Type 0) → (T → MutBor W) → T → List ℕ → T → Type 0
LoweringGives took in_it s bytes t =
    ((in_it t).ghost_name ≡ (in_it s).ghost_name)
    × WritesInCalls took (in_it s).now (map to_ascii_lowercase bytes) (in_it t).now

-- calls in lowercase, one after the other, do what one call with their whole text does
pub lowering_closed : {W T : Type 0} (took : W → List ℕ → W → Type 0) (in_it : T → MutBor W) (s t : T) (text : List ℕ)
    → WritesInCalls (LoweringGives took in_it) s text t → LoweringGives took in_it s text t
lowering_closed took in_it = closed_calls (LoweringGives took in_it)
    (λ s. (refl, writes_in_calls_nil _ _))
    (λ s t u a b first second.
    (second.0 ∙ first.0, rw (map-append to_ascii_lowercase a b) (writes_in_calls_append _ _ _ _ _ _ first.1 second.1)))

-- what some calls write whose bytes are counted
abbrev pub LimitedGives : {W T : Type 0} (took : W → List ℕ → W → Type 0) → (T → MutBor W) → (T → ℕ) → T
    → List ℕ → T → Type 0
LimitedGives took in_it left s bytes t =
    ((in_it t).ghost_name ≡ (in_it s).ghost_name) × WritesInCalls took (in_it s).now bytes (in_it t).now
    × (length bytes + left t ≡ left s)

-- calls to which a limited number of bytes is left, one after the other, do what one call with their whole text does
pub limited_closed : {W T : Type 0} (took : W → List ℕ → W → Type 0) (in_it : T → MutBor W) (left : T → ℕ) (s t : T)
    (text : List ℕ)
    → WritesInCalls (LimitedGives took in_it left) s text t → LimitedGives took in_it left s text t
limited_closed took in_it left = closed_calls (LimitedGives took in_it left)
    (λ s. (refl, writes_in_calls_nil _ _, omega arith))
    (λ s t u a b first second. (
      second.0 ∙ first.0,
      writes_in_calls_append _ _ _ _ _ _ first.1 second.1,
      rw (length-append a b) (omega (arith, first.2, second.2)),
    ))

-- a text that is the only one of its kind is the one that is written
module _ {W : Type 0} (took : W → List ℕ → W → Type 0) (Is : List ℕ → Type 0) (f g : Formatter W)
    (r : Result (Unit {0}) Error) where
  displays_known : (o : Option (List ℕ)) → IfSome o (λ bytes. IsOnly Is bytes)
      → (IsFlush f → IsOk r → ShowsSome took Is f g)
      → DisplaysStyledOnOk took f r (option_map (styled_text (formatter_spec f)) o) g
  displays_known None one shows = one
  displays_known (Some bytes) one shows = λ flush ok. let some = shows flush ok in
      rw (← one.only some.text some.is) some.wrote

  -- with the options of the formatter, if its alignment is one that a format string can have
  pub displays_styled_only : (o : Option (List ℕ)) → IfSome o (λ bytes. IsOnly Is bytes)
      → (IsFlush f → IsAligned f → IsOk r → ShowsSome took Is f g)
      → DisplaysStyledOnOk took f r (aligned_text (formatter_spec f).align (styled_text (formatter_spec f)) o) g
  displays_styled_only o one shows =
      cond_both (ltb (formatter_spec f).align 4) _ _ (λ known. DisplaysStyledOnOk took f r known g)
      (λ small. displays_known o one (λ flush. shows flush (λ _. ltb-true _ 4 small)))
      (λ _. tt)

  plain_known : (bytes : List ℕ) → IsOnly Is bytes → IsPlainFormatter f → ShowsSome took Is f g
      → HasWritten took f bytes g
  plain_known bytes one plain some =
      let wrote = rw (plain.bare.width, plain.bare.precision) at some.wrote.wrote in
      record {
        wrote = rw (← one.only some.text some.is) wrote;
        plain = record { bare = rw some.wrote.spec plain.bare; flush = some.wrote.flush };
      }

  -- a text as it is, if the formatter has no options
  pub displays_only : (o : Option (List ℕ)) → IfSome o (λ bytes. IsOnly Is bytes)
      → (IsFlush f → IsAligned f → IsOk r → ShowsSome took Is f g) → DisplaysOnOk took f r o g
  displays_only None one shows = one
  displays_only (Some bytes) one shows =
      λ plain ok. plain_known bytes one plain
      (shows plain.flush (λ wide. absurd (omega (arith, wide, plain.bare.width))) ok)
