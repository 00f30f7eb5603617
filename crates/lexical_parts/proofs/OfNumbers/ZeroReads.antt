-- The text of a number with zeros after its sign, which std reads as the number.
use Rattle.std.proofs.Common.{◌≡◌, ℕ, ◌+◌, ◌-◌, ◌<◌, ◌≤◌, List, [], ◌∷◌, ◌++◌, length, map, take, drop, replicate}
use Rattle.std.proofs.Common.{refl, sym, ap, ◌∙◌, ℤ, pos, negsuc, Bool, true, false, arith}
use Rattle.std.specs.Prelude.{None, unsigned_abs}
use Rattle.std.specs.List.{All}
use Rattle.std.proofs.lemmas.List.{drop_at, length-map, take_at}
use Rattle.std.proofs.lemmas.List.Elements.{All-head}
use Rattle.lexical_num.specs.Digit.{digit_char}
use Rattle.lexical_num.specs.Format.{Format}
use Rattle.lexical_num.specs.Sign.{sign_of}
use Rattle.lexical_write_integer.specs.DigitCount.{digit_count}
use Rattle.lexical_write_integer.specs.Text.{IsText}
use Rattle.lexical_write_integer.proofs.OfDigits.Numerals.{length-IsDigits}
use Rattle.lexical_write_integer.proofs.OfDigits.PaddedDigits.{IsPadded-digits}
use Rattle.lexical_write_integer.proofs.OfTexts.ReadTexts.{IsSigned, bare, padded_read}
use Rattle.lexical_write_integer.specs.ZerosAfterSign.{sign_length}
use Rattle.lexical_parts.specs.ZeroPadded.{IsZeroPadded}

-- a text of the characters of digits below 36 does not begin with a sign
digits_have_no_sign : (ds : List ℕ) → All (λ d. d < 36) ds → sign_length (map digit_char ds) ≡ 0
digits_have_no_sign [] below = refl
digits_have_no_sign (d ∷ ds) below = let small = All-head (λ d. d < 36) d ds below in grind arith

-- if a text does not begin with a sign, the sign length of the text with the sign of a number before it is the length
-- of that sign, which is 0 if the number has none
sign_counted : (x : ℤ) (required : Bool) (digits : List ℕ) → sign_length digits ≡ 0
    → sign_length (sign_of x required ++ digits) ≡ length (sign_of x required)
sign_counted (negsuc n) required digits none = refl
sign_counted (pos n) true digits none = refl
sign_counted (pos n) false digits none = none

-- such a text is a sign and digits that std reads as the magnitude, if the format has no groups
pub zero_padded_read : (x : ℤ) (f : Format) (width : ℕ) (text : List ℕ) → f.digit_grouping ≡ None → 2 ≤ f.mantissa_radix
    → f.mantissa_radix ≤ 36 → IsZeroPadded width (IsText x f) text
    → IsSigned f.mantissa_radix x f.required_mantissa_sign text
zero_padded_read x f width text plain two few is =
    let r = f.mantissa_radix in
    let sign = sign_of x f.required_mantissa_sign in
    let digits = is.is.digits in
    let magnitude = is.is.magnitude in
    let zeros = width - length is.number in
    let whole = bare x f is.number plain is.is in
    let below : All (λ d. d < 36) magnitude.digits =
    λ k d l. omega (arith, few, magnitude.numeral.numeral.below_radix k d l) in
    let none : sign_length digits ≡ 0 = rw magnitude.characters (digits_have_no_sign magnitude.digits below) in
    let counted = sym (sign_counted x f.required_mantissa_sign digits none) in
    let front : take (sign_length is.number) is.number ≡ sign = rw whole (take_at sign digits _ counted) in
    let back : drop (sign_length is.number) is.number ≡ digits = rw whole (drop_at sign digits _ counted) in
    let long = length-IsDigits r (unsigned_abs x) digits two magnitude in
    let some = ap length magnitude.characters ∙ length-map magnitude.digits digit_char in
    let padded = IsPadded-digits r (unsigned_abs x) zeros (zeros + digit_count r (unsigned_abs x))
    digits two refl magnitude in
    record {
      digits = replicate zeros 48 ++ digits;
      whole = is.whole ∙ rw (front, back) refl;
      read = padded_read r _ (unsigned_abs x) (replicate zeros 48 ++ digits) few
          (omega (arith, long, some, magnitude.numeral.numeral.nonempty)) padded;
    }
