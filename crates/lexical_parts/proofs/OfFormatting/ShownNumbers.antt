-- What `pad_integral` writes of a number, with a required sign as the option `+`.
use Rattle.std.proofs.lemmas.Grind.{common_steps}
use Rattle.std.proofs.Common.{◌≡◌, ◌∙◌, refl, true, false, Bool, [], ◌∷◌, ◌++◌, ℕ, zero, suc, ◌+◌, ◌-◌, ◌^◌, ◌==◌, length}
use Rattle.std.proofs.Common.{replicate, List, if◌then◌else◌, append-nil}
use Rattle.std.proofs.Common.{ap, append_assoc, None, Some, drop, ℤ, arith}
use Rattle.std.specs.Fmt.{fill_text, formatter_spec, padded_integral, padding_before, char_count, sign_text_with}
use Rattle.std.specs.Fmt.{spec_precision, spec_width}
use Rattle.std.specs.Int.{is_negative}
use Rattle.lexical_num.specs.Sign.{sign_of}
use Rattle.std.specs.Option.{unwrap_or, is_some}
use Rattle.std.specs.declared.fmt.Formatter.{Formatter}
use Rattle.std.proofs.Padding.{cond_same, padding_before_none}
use native.Mathlib.Numerals.{add-one}

-- k copies of a number and one more after them are k + 1 copies
one_more : (x k : ℕ) → replicate k x ++ x ∷ [] ≡ replicate (suc k) x
one_more x k = grind (arith, common_steps)

-- copies of a byte and one more are one copy more
pub replicate_more : (x k : ℕ) → replicate k x ++ x ∷ [] ≡ replicate (k + 1) x
replicate_more x k = rw add-one (one_more x k)

-- copies of a byte, and then others
pub replicate_and : (x a b : ℕ) → replicate a x ++ replicate b x ≡ replicate (a + b) x
replicate_and x zero b = grind arith
replicate_and x (suc a) b =
    let count : suc (a + b) ≡ suc a + b = omega arith in
    ap (λ text. x ∷ text) (replicate_and x a b) ∙ ap (λ n. replicate n x) count

-- if a width of 0 counts as none, and none as 0, the result is the width itself
width_or_zero : (n : ℕ) → unwrap_or (if n == 0 then None else Some n) 0 ≡ n
width_or_zero n = grind arith

module _ {W : Type 0} (f : Formatter W) where
  -- no width is a width of 0
  pub width_of : unwrap_or (spec_width (formatter_spec f)) 0 ≡ (formatter_spec f).width
  width_of = width_or_zero (formatter_spec f).width

-- if a precision of 2 ^ 64 - 1 counts as none, and none as 2 ^ 64 - 1, the result is the precision itself
precision_or_most : (n : ℕ) → unwrap_or (if n == 2 ^ 64 - 1 then None else Some n) (2 ^ 64 - 1) ≡ n
precision_or_most n = grind arith

module _ {W : Type 0} (f : Formatter W) where
  -- no precision is the largest
  pub precision_of : unwrap_or (spec_precision (formatter_spec f)) (2 ^ 64 - 1) ≡ (formatter_spec f).precision
  precision_of = precision_or_most (formatter_spec f).precision

module _ {W : Type 0} (f : Formatter W) (digits : List ℕ) (no_plus : (formatter_spec f).plus ≡ false) where
  -- without zeros, the fill is that of a text that has the sign
  pub filled : (formatter_spec f).zero ≡ false
      → padded_integral (formatter_spec f) false [] (43 ∷ digits)
      ≡ padded_integral (record (formatter_spec f) { plus = true }) false [] digits
  unfolding padded_integral
  filled no_zeros =
      let same : f.spec.width - suc (length digits) - 0 - char_count []
      ≡ f.spec.width - length digits - 1 - char_count [] = omega arith in
      rw (no_plus, no_zeros, cond_same {A = List ℕ} f.spec.alternate [] [] [] refl refl, same)
      (simp (append-nil, append_assoc))

  -- the zeros are between the sign and the digits
  pub zeros_after_plus : (formatter_spec f).zero ≡ true
      → 43 ∷ (replicate ((formatter_spec f).width - suc (length digits)) 48 ++ digits)
      ≡ padded_integral (record (formatter_spec f) { plus = true }) false [] digits
  unfolding padded_integral char_count
  zeros_after_plus zeros =
      let same : f.spec.width - suc (length digits) ≡ f.spec.width - length digits - 1 - 0 = omega arith in
      rw (zeros, cond_same {A = List ℕ} f.spec.alternate [] [] [] refl refl, same) (simp append-nil)

-- a choice between a number and the same number is that number
cond_self_number : (t : Bool) (n : ℕ) → (if t then n else n) ≡ n
cond_self_number t n = cond_same t n n n refl refl

-- if only a number that is 0 counts as none, a number that counts as none is 0
none_is_zero : (n : ℕ) → is_some (if n == 0 then None else Some n) ≡ false → n ≡ 0
none_is_zero n = grind arith

-- if only a number that is 2 ^ 64 - 1 counts as none, a number that counts as none is 2 ^ 64 - 1
none_is_most : (n : ℕ) → is_some (if n == 2 ^ 64 - 1 then None else Some n) ≡ false → n ≡ 2 ^ 64 - 1
none_is_most n = grind arith

module _ {W : Type 0} (f : Formatter W) where
  -- if a formatter has no width, the field for it is 0
  pub no_width : is_some (spec_width (formatter_spec f)) ≡ false → (formatter_spec f).width ≡ 0
  no_width = none_is_zero (formatter_spec f).width

  -- if a formatter has no precision, the field for it is the largest number of 64 bits
  pub no_precision : is_some (spec_precision (formatter_spec f)) ≡ false → (formatter_spec f).precision ≡ 2 ^ 64 - 1
  no_precision = none_is_most (formatter_spec f).precision

  -- without a width there is only the sign
  pub unpadded : (plus negative : Bool) (digits : List ℕ) → (formatter_spec f).width ≡ 0
      → (formatter_spec f).plus ≡ false
      → padded_integral (if plus then record (formatter_spec f) { plus = true } else formatter_spec f)
      negative [] digits
      ≡ sign_text_with plus negative ++ digits
  unfolding padded_integral char_count
  unpadded true negative digits none no_plus =
      let no_padding : 0 - length digits - length (sign_text_with true negative) - 0 ≡ 0 = omega arith in
      rw (
        none,
        cond_same {A = List ℕ} f.spec.alternate [] [] [] refl refl,
        no_padding,
        padding_before_none (record (formatter_spec f) { plus = true }) 3,
      )
      (simp (cond_self_number f.spec.zero 0, append-nil))
  unpadded false negative digits none no_plus =
      let no_padding : 0 - length digits - length (sign_text_with false negative) - 0 ≡ 0 = omega arith in
      rw (
        none,
        no_plus,
        cond_same {A = List ℕ} f.spec.alternate [] [] [] refl refl,
        no_padding,
        padding_before_none (formatter_spec f) 3,
      )
      (simp (cond_self_number f.spec.zero 0, append-nil))

  -- a negative number has its own sign
  pub negative_sign : (plus : Bool) (digits : List ℕ)
      → padded_integral (formatter_spec f) true [] digits
      ≡ padded_integral (if plus then record (formatter_spec f) { plus = true } else formatter_spec f) true [] digits
  unfolding padded_integral
  negative_sign true digits = refl
  negative_sign false digits = refl

-- a sign that is written as a digit
pub sign_as_digit : {W : Type 0} (f : Formatter W) (plus negative : Bool) (digits : List ℕ)
    → (formatter_spec f).plus ≡ false → (formatter_spec f).zero ≡ false
    → padded_integral (formatter_spec f) false [] (sign_text_with plus negative ++ digits)
    ≡ padded_integral (if plus then record (formatter_spec f) { plus = true } else formatter_spec f) negative [] digits
unfolding padded_integral
sign_as_digit f true false digits no_plus no_zeros = filled f digits no_plus no_zeros
sign_as_digit f false false digits no_plus no_zeros = refl
sign_as_digit f plus true digits no_plus no_zeros =
    let same : f.spec.width - suc (length digits) - 0 - char_count []
    ≡ f.spec.width - length digits - 1 - char_count [] = omega arith in
    let minus : padded_integral (formatter_spec f) false [] (45 ∷ digits)
    ≡ padded_integral (formatter_spec f) true [] digits =
    rw (no_plus, no_zeros, cond_same {A = List ℕ} f.spec.alternate [] [] [] refl refl, same)
    (simp (append-nil, append_assoc)) in
    minus ∙ negative_sign f plus digits

module _ {W : Type 0} (f : Formatter W) (digits : List ℕ) where
  -- the pieces of a number, with fill or with zeros
  pieces_in_order : (zero : Bool) (sign : List ℕ) (missing fill before : ℕ) →
      fill ≡ (if zero then 0 else missing) → before ≡ padding_before (formatter_spec f) fill 3 →
      fill_text (formatter_spec f) before
      ++ (sign ++ (replicate (missing - fill) 48 ++ (digits ++ fill_text (formatter_spec f) (fill - before))))
      ≡ (fill_text (formatter_spec f) (if zero then 0 else padding_before (formatter_spec f) missing 3) ++ sign ++ []
      ++ replicate (if zero then missing else 0) 48)
      ++ (digits ++ fill_text (formatter_spec f)
      (if zero then 0 else missing - padding_before (formatter_spec f) missing 3))
  pieces_in_order true sign missing fill before is_fill is_before =
      let none : missing - 0 ≡ missing = omega arith in
      rw (is_before, is_fill, padding_before_none (formatter_spec f) 3, none) (simp (append-nil, append_assoc))
  pieces_in_order false sign missing fill before is_fill is_before =
      let none : missing - missing ≡ 0 = omega arith in
      rw (is_before, is_fill, none) (simp (append-nil, append_assoc))

  -- what is written of a number piece by piece: fill, the sign, zeros, the digits and fill
  pub pieces_of_number : (missing fill before : ℕ) →
      missing ≡ (formatter_spec f).width - length digits - length (sign_text_with (formatter_spec f).plus false) →
      fill ≡ (if (formatter_spec f).zero then 0 else missing) → before ≡ padding_before (formatter_spec f) fill 3 →
      fill_text (formatter_spec f) before ++ (sign_text_with (formatter_spec f).plus false
      ++ (replicate (missing - fill) 48 ++ (digits ++ fill_text (formatter_spec f) (fill - before))))
      ≡ padded_integral (formatter_spec f) false [] digits
  unfolding padded_integral char_count
  pieces_of_number missing fill before short is_fill is_before =
      let whole : f.spec.width - length digits - length (sign_text_with f.spec.plus false) - 0 ≡ missing =
      omega (arith, short) in
      rw (cond_same {A = List ℕ} f.spec.alternate [] [] [] refl refl, whole)
      (pieces_in_order f.spec.zero (sign_text_with f.spec.plus false) missing fill before is_fill is_before)

-- the text of a number without its sign
pub without_sign : (n : ℤ) (required : Bool) (digits : List ℕ)
    → drop (length (sign_text_with required (is_negative n))) (sign_of n required ++ digits) ≡ digits
without_sign n required digits = grind arith
