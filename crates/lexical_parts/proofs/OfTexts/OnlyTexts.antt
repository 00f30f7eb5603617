-- Parts of which the prover computes the text.
use Rattle.std.proofs.Common.{ℕ, ◌-◌, ◌/◌, List, [], ◌∷◌, ◌++◌, length, take, drop, map, replicate, refl, ap, ◌∙◌}
use Rattle.std.proofs.Common.{arith, Option, Some, None, suc}
use Rattle.std.specs.Char.{to_ascii_lowercase}
use Rattle.std.specs.Fmt.{option_append}
use Rattle.std.specs.List.{All}
use Rattle.std.specs.Option.{IfSome}
use Rattle.lexical_write_integer.specs.Lowercase.{IsLowercase}
use Rattle.lexical_write_integer.specs.Sequence.{AreJoined, Then}
use Rattle.lexical_parts.specs.Column.{IsAtLeft, IsAtRight, IsCentered, centered_text, left_text, right_text}
use Rattle.lexical_parts.specs.Joined.{joined_text}
use Rattle.lexical_parts.specs.Length.{IsOnly}
use Rattle.lexical_parts.specs.Lower.{lower_text}
use Rattle.lexical_write_integer.specs.ZerosAfterSign.{sign_length}
use Rattle.lexical_parts.specs.ZeroPadded.{IsZeroPadded, zero_padded_text}
use Rattle.lexical_parts.proofs.Equations.{only_digits, only_exactly, only_padded, only_text}
use Rattle.lexical_parts.proofs.OfNumbers.HexTexts.{only_hex_bytes}

-- if the only texts of two kinds are known, so is the only one of both in a row
pub both_only : (First Second : List ℕ → Type 0) (a b : Option (List ℕ)) → IfSome a (λ bytes. IsOnly First bytes)
    → IfSome b (λ bytes. IsOnly Second bytes)
    → IfSome (option_append a b) (λ bytes. IsOnly (Then First Second) bytes)
both_only First Second None b first second = first
both_only First Second (Some x) None first second = second
both_only First Second (Some x) (Some y) first second = record {
  only = λ text is. is.whole ∙ rw (first.only is.first is.is_first, second.only is.second is.is_second) refl;
}

-- if the only text of a part is known, so is that of the part at the left of a column
pub left_only : (Is : List ℕ → Type 0) (width fill : ℕ) (o : Option (List ℕ)) → IfSome o (λ bytes. IsOnly Is bytes)
    → IfSome (left_text width fill o) (λ bytes. IsOnly (IsAtLeft width fill Is) bytes)
left_only Is width fill None one = one
left_only Is width fill (Some x) one = record {
  only = λ text is. is.whole ∙ ap (λ cell. cell ++ replicate (width - length cell) fill) (one.only is.cell is.is);
}

-- if the only text of a part is known, so is that of the part at the right of a column
pub right_only : (Is : List ℕ → Type 0) (width fill : ℕ) (o : Option (List ℕ)) → IfSome o (λ bytes. IsOnly Is bytes)
    → IfSome (right_text width fill o) (λ bytes. IsOnly (IsAtRight width fill Is) bytes)
right_only Is width fill None one = one
right_only Is width fill (Some x) one = record {
  only = λ text is. is.whole ∙ ap (λ cell. replicate (width - length cell) fill ++ cell) (one.only is.cell is.is);
}

-- if the only text of a part is known, so is that of the part in the middle of a column
pub centered_only : (Is : List ℕ → Type 0) (width fill : ℕ) (o : Option (List ℕ)) → IfSome o (λ bytes. IsOnly Is bytes)
    → IfSome (centered_text width fill o) (λ bytes. IsOnly (IsCentered width fill Is) bytes)
centered_only Is width fill None one = one
centered_only Is width fill (Some x) one = record {
  only = λ text is. is.whole ∙ ap (λ cell. (replicate ((width - length cell) / 2) fill ++ cell)
      ++ replicate (width - length cell - (width - length cell) / 2) fill) (one.only is.cell is.is);
}

-- if the only text of a part is known, so is that of the part in lowercase
pub lower_only : (Is : List ℕ → Type 0) (o : Option (List ℕ)) → IfSome o (λ bytes. IsOnly Is bytes)
    → IfSome (lower_text o) (λ bytes. IsOnly (IsLowercase Is) bytes)
lower_only Is None one = one
lower_only Is (Some x) one = record {
  only = λ text is. is.whole
      ∙ ap (map to_ascii_lowercase) (one.only is.original is.is);
}

-- if the only text of a part is known, so is that of the part with zeros after its sign
pub zero_padded_only : (Is : List ℕ → Type 0) (width : ℕ) (o : Option (List ℕ)) → IfSome o (λ bytes. IsOnly Is bytes)
    → IfSome (zero_padded_text width o) (λ bytes. IsOnly (IsZeroPadded width Is) bytes)
zero_padded_only Is width None one = one
zero_padded_only Is width (Some x) one = record {
  only = λ text is. is.whole ∙ ap (λ number. take (sign_length number) number
      ++ (replicate (width - length number) 48 ++ drop (sign_length number) number)) (one.only is.number is.is);
}

-- if the only text of each element is known, so is the only one of all, with the separator between them
pub joined_only : {A : Type 0} (IsOf : A → List ℕ → Type 0) (text_of_one : A → Option (List ℕ)) (separator : List ℕ)
    (xs : List A)
    → All (λ x. IfSome (text_of_one x) (λ bytes. IsOnly (IsOf x) bytes)) xs
    → IfSome (joined_text text_of_one separator xs) (λ bytes. IsOnly (AreJoined IsOf separator xs) bytes)
joined_only IsOf text_of_one separator [] each = only_exactly []
joined_only IsOf text_of_one separator (x ∷ []) each = each 0 x (omega arith)
joined_only IsOf text_of_one separator (x ∷ y ∷ xs) each =
    let rest = joined_only IsOf text_of_one separator (y ∷ xs) (λ k d inside. each (suc k) d (omega arith)) in
    both_only _ _ (text_of_one x) _ (each 0 x (omega arith))
    (both_only _ _ (Some separator) _ (only_exactly separator) rest)

-- what the check uses for the texts that it computes
pub ruleset onlys = (
  both_only,
  left_only,
  right_only,
  centered_only,
  lower_only,
  zero_padded_only,
  only_exactly,
  only_digits,
  only_padded,
  only_text,
  only_hex_bytes,
)
