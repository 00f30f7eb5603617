-- Zeros that are inserted after the sign of a text.
use Rattle.std.proofs.Common.{◌≡◌, ℕ, ◌+◌, ◌-◌, ◌<◌, ◌≤◌, ◌∙◌, Bool, true, false, List, [], ◌∷◌, ◌++◌, length}
use Rattle.std.proofs.Common.{length-append, take, drop, replicate, refl, sym, ap, arith}
use Rattle.std.proofs.Common.{◌==◌, ◌||◌, append_assoc, append-nil, if◌then◌else◌}
use Rattle.std.proofs.Output.{writes_in_calls_append, writes_in_calls_nil}
use Rattle.std.proofs.lemmas.List.{length-drop, length-replicate, length-take-le, take_at, take-append-drop}
use Rattle.std.specs.Borrow.{MutBor}
use Rattle.std.specs.Fmt.{WritesInCalls}
use Rattle.lexical_write_integer.specs.Buffer.{Front, Writes}
use Rattle.lexical_parts.specs.Length.{IsOfLength}
use Rattle.lexical_parts.specs.ShownParts.{WritesSome}
use Rattle.lexical_write_integer.specs.ZerosAfterSign.{sign_length, with_zeros}
use Rattle.lexical_parts.specs.ZeroPadded.{IsZeroPadded, piece_with_zeros, zeros_after}
use Rattle.lexical_parts.proofs.OfLayout.Inserts.{Front-inserted}
use Rattle.lexical_parts.proofs.OfFormatting.ShownParts.{closed_calls}

-- zeros between the sign of a text and its other bytes, up to the width, make it a text with zeros
pub written_zero_padded : {Is : List ℕ → Type 0} {width count sign added : ℕ} {before between part : List ℕ} (room : ℕ)
    → Writes Is before between count → sign ≡ sign_length (take count between) → sign ≤ length (take count between)
    → added ≡ width - count → count - sign ≤ length (take room (drop sign between))
    → Front (take room (drop sign between)) part
    (replicate added 48 ++ take (count - sign) (take room (drop sign between)))
    → Writes (IsZeroPadded width Is) before (take sign between ++ (part ++ drop room (drop sign between)))
    (added + count)
written_zero_padded {Is} {width} {count} {sign} {added} {before} {between}
    {part} room a is_sign within is_added room_for inserted =
    let text_is : take count between ≡ a.text = ap (take count) a.front.written
    ∙ take_at a.text (drop (length a.text) before) count (sym a.count) in
    let sign_is : sign ≡ sign_length a.text = is_sign ∙ ap sign_length text_is in
    let short : sign ≤ length a.text = rw text_is at within in
    let added_is : added ≡ width - length a.text = omega (arith, is_added, a.count) in
    let whole : List ℕ = take sign a.text ++ (replicate added 48 ++ drop sign a.text) in
    let long : length whole ≡ added + count =
    omega (
      arith,
      a.count,
      length-append (take sign a.text) (replicate added 48 ++ drop sign a.text),
      length-append (replicate added 48) (drop sign a.text),
      length-replicate {A = ℕ} added 48,
      length-take-le sign a.text short,
      length-drop sign a.text,
    )
    in
    record {
      text = whole;
      is = record {
        number = a.text;
        is = a.is;
        whole = ap (λ s. take s a.text ++ (replicate added 48 ++ drop s a.text)) sign_is
            ∙ ap (λ n. with_zeros n a.text) added_is;
      };
      front = Front-inserted (replicate added 48) sign room a.front (omega (arith, a.count, short)) inserted room_for;
      count = sym long;
    }

-- ---- a text that is written in pieces

-- a text with no zeros added after its sign is unchanged
no_zeros : (text : List ℕ) → with_zeros 0 text ≡ text
no_zeros text = take-append-drop (sign_length text) text

-- if no zeros are still to be added, a piece is written unchanged
no_zeros_left : (piece : List ℕ) → piece_with_zeros 0 piece ≡ piece
no_zeros_left [] = refl
no_zeros_left (x ∷ xs) = no_zeros (x ∷ xs)

-- the sign is in the first piece
sign_in_first : (is_sign : Bool) (more x : ℕ) (a b : List ℕ) →
    take (if is_sign then 1 else 0) (x ∷ (a ++ b))
    ++ (replicate more 48 ++ drop (if is_sign then 1 else 0) (x ∷ (a ++ b)))
    ≡ (take (if is_sign then 1 else 0) (x ∷ a) ++ (replicate more 48 ++ drop (if is_sign then 1 else 0) (x ∷ a))) ++ b
sign_in_first true more x a b = simp append_assoc
sign_in_first false more x a b = simp append_assoc

-- of two pieces of a text, the first that is not empty gets the zeros
pub pieces_with_zeros : (more : ℕ) (a b : List ℕ) →
    piece_with_zeros more (a ++ b) ≡ piece_with_zeros more a ++ piece_with_zeros (zeros_after more a) b
pieces_with_zeros more [] b = refl
pieces_with_zeros more (x ∷ a) b = rw (no_zeros_left b) (sign_in_first (x == 45 || x == 43) more x a b)

-- after a piece that is made of two, as many zeros are still to be added as after the two of them one by one
zeros_after-append : (more : ℕ) (a b : List ℕ) → zeros_after more (a ++ b) ≡ zeros_after (zeros_after more a) b
zeros_after-append more [] b = refl
zeros_after-append more (x ∷ a) [] = refl
zeros_after-append more (x ∷ a) (y ∷ b) = refl

-- the zeros that no piece has got follow the pieces
pub zeros_at_last : (more : ℕ) (text : List ℕ) → piece_with_zeros more text ++ replicate (zeros_after more text) 48
    ≡ with_zeros more text
zeros_at_last more [] = sym (append-nil _)
zeros_at_last more (x ∷ text) = append-nil _

-- a piece is written: its sign, the zeros and the rest of it
pub one_piece : {W : Type 0} (took : W → List ℕ → W → Type 0) (more : ℕ) (text sign number : List ℕ) (f g h k : W) →
    0 < length text → sign ≡ take (sign_length text) text → number ≡ drop (sign_length text) text →
    WritesInCalls took f sign g → WritesInCalls took g (replicate more 48) h → WritesInCalls took h number k →
    WritesInCalls took f (piece_with_zeros more text) k × (0 ≡ zeros_after more text)
one_piece took more [] sign number f g h k some is_sign is_number first filled rest = absurd (omega (arith, some))
one_piece took more (x ∷ text) sign number f g h k some is_sign is_number first filled rest = (
  writes_in_calls_append _ _ _ _ _ _ (rw is_sign at first)
      (writes_in_calls_append _ _ _ _ _ _ filled (rw is_number at rest)),
  refl,
)

-- what some calls write of a text to which zeros are added
abbrev pub AddingGives : {W T : Type 0} (took : W → List ℕ → W → Type 0) → (T → MutBor W) → (T → ℕ) → T
    → List ℕ → T → Type 0
AddingGives took in_it more s bytes t =
    ((in_it t).ghost_name ≡ (in_it s).ghost_name)
    × WritesInCalls took (in_it s).now (piece_with_zeros (more s) bytes) (in_it t).now
    × (more t ≡ zeros_after (more s) bytes)

-- calls to which zeros are added, one after the other, do what one call with their whole text does
pub adding_closed : {W T : Type 0} (took : W → List ℕ → W → Type 0) (in_it : T → MutBor W) (more : T → ℕ) (s t : T)
    (text : List ℕ)
    → WritesInCalls (AddingGives took in_it more) s text t → AddingGives took in_it more s text t
adding_closed took in_it more = closed_calls (AddingGives took in_it more)
    (λ s. (refl, writes_in_calls_nil _ _, refl))
    (λ s t u a b first second. (
      second.0 ∙ first.0,
      rw (pieces_with_zeros (more s) a b, ← first.2) (writes_in_calls_append _ _ _ _ _ _ first.1 second.1),
      second.2 ∙ ap (λ n. zeros_after n b) first.2 ∙ sym (zeros_after-append (more s) a b),
    ))

-- a text of this length is written with zeros, and then those that no piece has got
pub WritesSome-zeros : {W : Type 0} (took : W → List ℕ → W → Type 0) (Is : List ℕ → Type 0) (width count more : ℕ)
    (number : List ℕ) (f g h : W) →
    more ≡ width - count → IsOfLength Is count number → WritesInCalls took f (piece_with_zeros more number) g
    → WritesInCalls took g (replicate (zeros_after more number) 48) h → WritesSome took (IsZeroPadded width Is) f h
WritesSome-zeros took Is width count more number f g h are_zeros is pieces rest = record {
  text = with_zeros more number;
  is = record {
    number = number;
    is = is.is;
    whole = ap (λ n. with_zeros n number) (are_zeros ∙ ap (λ n. width - n) (sym is.counted));
  };
  wrote = rw (← zeros_at_last more number) (writes_in_calls_append _ _ _ _ _ _ pieces rest);
}
