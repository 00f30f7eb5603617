-- Lists whose elements have texts of one width, with a separator between them: one text is of one list.
use Rattle.std.proofs.Common.{◌≡◌, ℕ, ◌≤◌, List, [], ◌∷◌, ◌++◌, length, length-append, map, refl, sym, ap, ◌∙◌, false}
use Rattle.std.proofs.Common.{pos, arith}
use Rattle.std.specs.Char.{to_ascii_lowercase}
use Rattle.std.proofs.lemmas.List.{append_cancel_left, length-map, map-append}
use Rattle.lexical_write_integer.specs.Lowercase.{IsLowercase}
use Rattle.lexical_write_integer.specs.Padded.{IsPadded}
use Rattle.lexical_write_integer.specs.Read.{AreReadAs}
use Rattle.lexical_write_integer.specs.Sequence.{AreJoined, Then}
use Rattle.lexical_write_integer.proofs.OfDigits.PaddedDigits.{length-IsPadded}
use Rattle.lexical_write_integer.proofs.OfTexts.Rows.{rows}
use Rattle.lexical_write_integer.proofs.OfTexts.ReadTexts.{are_read, padded_read}
use Rattle.lexical_write_integer.specs.InCommon.{HaveInCommon}
use Rattle.lexical_parts.proofs.OfLayout.Splits.{halves}

module _ {A : Type 0} (IsOf : A → List ℕ → Type 0) (separator : List ℕ) (w : ℕ) (some : 1 ≤ w)
    (wide : (x : A) (text : List ℕ) → IsOf x text → length text ≡ w)
    (one : (x y : A) (text : List ℕ) → IsOf x text → IsOf y text → x ≡ y) where
  -- two lists that have a joined text in common are equal
  pub equal_lists : (xs ys : List A) → HaveInCommon (AreJoined IsOf separator xs)
      (AreJoined IsOf separator ys) → xs ≡ ys
  equal_lists xs ys both = rows IsOf separator (λ x text is. omega (arith, some, wide x text is)) one
      (λ x y f g r q is also same.
      let parts = halves f (separator ++ r) g (separator ++ q) same (wide x f is ∙ sym (wide y g also)) in
      (parts.0, append_cancel_left separator r q parts.1))
      (λ x y f g r is also more same.
      omega (
        arith,
        wide x f is,
        wide y g also,
        more,
        ap length same,
        length-append g (separator ++ r),
        length-append separator r,
      ))
      xs ys both.text both.is both.also

-- ---- the same for texts in lowercase

-- if the two parts of a text, each in lowercase, are of the kinds C and D, the text in lowercase is one of the kind C
-- followed by one of the kind D
lower_then : {A B C D : List ℕ → Type 0} {text : List ℕ} (is : Then A B text) → C (map to_ascii_lowercase is.first)
    → D (map to_ascii_lowercase is.second) → Then C D (map to_ascii_lowercase text)
lower_then is first second = record {
  first = map to_ascii_lowercase is.first;
  second = map to_ascii_lowercase is.second;
  is_first = first;
  is_second = second;
  whole = ap (map to_ascii_lowercase) is.whole ∙ map-append to_ascii_lowercase is.first is.second;
}

-- a joined text of a list, in lowercase, is a joined text whose texts of elements and whose separator are in lowercase
AreJoined-lower : {A : Type 0} (IsOf : A → List ℕ → Type 0) (separator : List ℕ) (xs : List A) (text : List ℕ)
    → AreJoined IsOf separator xs text
    → AreJoined (λ x. IsLowercase (IsOf x)) (map to_ascii_lowercase separator) xs (map to_ascii_lowercase text)
AreJoined-lower IsOf separator [] text is = ap (map to_ascii_lowercase) is
AreJoined-lower IsOf separator (x ∷ []) text is = record { original = text; is = is; whole = refl }
AreJoined-lower IsOf separator (x ∷ y ∷ xs) text is =
    let rest = is.is_second in
    lower_then is (record { original = is.first; is = is.is_first; whole = refl })
    (lower_then rest (ap (map to_ascii_lowercase) rest.is_first)
    (AreJoined-lower IsOf separator (y ∷ xs) rest.second rest.is_second))

module _ (r width : ℕ) (few : r ≤ 36) (some : 1 ≤ width) where
  read : (n : ℕ) → AreReadAs r (pos n) (IsPadded r width n)
  read n = are_read r (pos n) false few _
      (λ text is. record { digits = text; whole = refl; read = padded_read r width n text few some is })

  -- two lists of numbers in digits of one width are equal if they have a joined text in common
  pub equal_bytes : (separator xs ys : List ℕ)
      → HaveInCommon (AreJoined (IsPadded r width) separator xs) (AreJoined (IsPadded r width) separator ys) → xs ≡ ys
  equal_bytes separator xs ys both =
      equal_lists (IsPadded r width) separator width some (λ n text is. length-IsPadded r width n text is)
      (λ m n text p q. sym ((read m).unsigned m refl text p).value ∙ ((read n).unsigned n refl text q).value) xs ys both

  -- two such lists are equal if they have a joined text in lowercase in common
  pub equal_lower_bytes : (separator xs ys : List ℕ)
      → HaveInCommon (IsLowercase (AreJoined (IsPadded r width) separator xs))
      (IsLowercase (AreJoined (IsPadded r width) separator ys)) → xs ≡ ys
  equal_lower_bytes separator xs ys both =
      equal_lists (λ n. IsLowercase (IsPadded r width n)) (map to_ascii_lowercase separator) width some
      (λ n text is. ap length is.whole ∙ length-map is.original to_ascii_lowercase
      ∙ length-IsPadded r width n is.original is.is)
      (λ m n text p q. sym ((read m).unsigned_lowercase m refl text p).value
      ∙ ((read n).unsigned_lowercase n refl text q).value)
      xs ys
      (record {
        text = both.text;
        is = rw both.is.whole (AreJoined-lower (IsPadded r width) separator xs both.is.original both.is.is);
        also = rw both.also.whole (AreJoined-lower (IsPadded r width) separator ys both.also.original both.also.is);
      })
