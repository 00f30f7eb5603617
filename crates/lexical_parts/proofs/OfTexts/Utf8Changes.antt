-- Texts in lowercase, and texts with zeros after the sign, are UTF-8.
use Rattle.std.proofs.lemmas.Grind.{common_steps}
use Rattle.std.proofs.Common.{◌≡◌, ℕ, ◌≤◌, List, [], ◌∷◌, ◌++◌, map, refl, sym, ap, ◌∙◌, arith}
use Rattle.std.specs.Char.{to_ascii_lowercase}
use Rattle.std.specs.Str.{IsUtf8, IsCharBoundary}
use Rattle.std.proofs.Math.Utf8.{scalar, scalars, encode, encodes, low_scalar}
use Rattle.std.proofs.lemmas.Bool.{cases_lt}
use Rattle.std.proofs.lemmas.List.{map-append}
use Rattle.std.proofs.lemmas.Str.{IsUtf8-append, IsUtf8-drop, IsUtf8-take, IsCharBoundary-after_ascii}
use Rattle.std.proofs.lemmas.Str.{IsCharBoundary-start}
use Rattle.std.proofs.lemmas.Str.Ascii.{encode_ascii, lowercase_ascii, lowercase_is}
use Rattle.lexical_write_integer.specs.Lowercase.{IsLowercase}
use Rattle.lexical_parts.specs.Utf8.{AreUtf8}
use Rattle.lexical_write_integer.specs.ZerosAfterSign.{sign_length}
use Rattle.lexical_parts.specs.ZeroPadded.{IsZeroPadded}
use Rattle.lexical_parts.proofs.OfTexts.Utf8Texts.{fill_is_utf8}

-- letters of ASCII are below 128, and no byte of another character is
kept : (byte : ℕ) → 128 ≤ byte → to_ascii_lowercase byte ≡ byte
kept byte high = (lowercase_is byte).2 (omega arith)

abbrev Kept : List ℕ → Type 0
Kept bytes = map to_ascii_lowercase bytes ≡ bytes

-- the bytes of a character of 128 or more are unchanged: whatever its length is, each of its bytes is 128 or more
kept_encode : (c : ℕ) → 128 ≤ c → Kept (encode c)
unfolding encode
kept_encode c high = grind (arith, common_steps)

-- a character in ASCII lowercase, encoded in UTF-8, is the bytes of the character in UTF-8, each in ASCII lowercase
lower_encode : (c : ℕ) → encode (to_ascii_lowercase c) ≡ map to_ascii_lowercase (encode c)
lower_encode c = grind (arith, cases_lt, encode_ascii, lowercase_ascii, kept, kept_encode)

-- characters in ASCII lowercase, encoded in UTF-8, are the bytes of the characters in UTF-8, each in ASCII lowercase
lower_encodes : (cs : List ℕ) → encodes (map to_ascii_lowercase cs) ≡ map to_ascii_lowercase (encodes cs)
lower_encodes [] = refl
lower_encodes (c ∷ cs) =
    ap (λ bytes. bytes ++ encodes (map to_ascii_lowercase cs)) (lower_encode c)
    ∙ ap (λ rest. map to_ascii_lowercase (encode c) ++ rest) (lower_encodes cs)
    ∙ sym (map-append to_ascii_lowercase (encode c) (encodes cs))

-- a number that is changed to ASCII lowercase is a Unicode scalar value if and only if it was one before
lower_scalar : (c : ℕ) → scalar (to_ascii_lowercase c) ≡ scalar c
lower_scalar c = grind (arith, cases_lt, low_scalar, lowercase_ascii, kept)

-- numbers that are changed to ASCII lowercase are all Unicode scalar values if and only if they were so before
lower_scalars : (cs : List ℕ) → scalars (map to_ascii_lowercase cs) ≡ scalars cs
lower_scalars [] = refl
lower_scalars (c ∷ cs) = rw (lower_scalar c, lower_scalars cs) refl

-- a text that is UTF-8 is also so in lowercase
pub lower_is_utf8 : {Is : List ℕ → Type 0} → AreUtf8 Is → AreUtf8 (IsLowercase Is)
lower_is_utf8 texts = record {
  each = λ text is.
      let u = texts.each is.original is.is in
      rw is.whole (
        map to_ascii_lowercase u.0,
        (lower_scalars u.0 ∙ u.1.0, lower_encodes u.0 ∙ ap (map to_ascii_lowercase) u.1.1),
      );
}

-- a character ends after a sign
sign_ends : (text : List ℕ) → IsUtf8 text → IsCharBoundary text (sign_length text)
sign_ends text u = grind (arith, common_steps, IsCharBoundary-start, IsCharBoundary-after_ascii)

-- a text with zeros after its sign is UTF-8
pub zero_padded_is_utf8 : {Is : List ℕ → Type 0} (width : ℕ) → AreUtf8 Is → AreUtf8 (IsZeroPadded width Is)
zero_padded_is_utf8 width texts = record {
  each = λ text is.
      let u = texts.each is.number is.is in
      let cut = sign_ends is.number u in
      rw is.whole (IsUtf8-append _ _ (IsUtf8-take is.number _ u cut)
      (IsUtf8-append _ _ (fill_is_utf8 48 _ (omega arith)) (IsUtf8-drop is.number _ u cut)));
}

-- what the check uses for changed texts
pub ruleset changes = (lower_is_utf8, zero_padded_is_utf8)
