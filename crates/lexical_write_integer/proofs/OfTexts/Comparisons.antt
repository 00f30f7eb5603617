-- Two numbers are equal if and only if their texts are.
use Rattle.std.proofs.Common.{◌≡◌, ℕ, ◌≤◌, List, ◌++◌, sym, ap, ◌∙◌, ℤ, unsigned_abs}
use Rattle.std.specs.Prelude.{◌↔◌}
use Rattle.lexical_num.specs.Format.{Format}
use Rattle.lexical_num.specs.Sign.{sign_of}
use Rattle.lexical_write_integer.specs.Padded.{IsPadded}
use Rattle.lexical_write_integer.specs.Groups.{grouped}
use Rattle.lexical_write_integer.specs.Text.{IsDigits, IsText}
use Rattle.lexical_write_integer.proofs.OfDigits.Numerals.{digits_unique}
use Rattle.lexical_write_integer.proofs.OfDigits.PaddedDigits.{padded_unique}
use Rattle.lexical_write_integer.proofs.OfTexts.Orders.{equal_from_IsDigits, equal_from_IsPadded, equal_from_IsText}

-- a number has one text in a format
pub texts_unique : (x : ℤ) (format : Format) (s t : List ℕ) → 2 ≤ format.mantissa_radix → IsText x format s
    → IsText x format t → s ≡ t
texts_unique x format s t two p q =
    let same = digits_unique format.mantissa_radix (unsigned_abs x) p.digits q.digits two p.magnitude q.magnitude in
    p.whole ∙ ap (λ digits. sign_of x format.required_mantissa_sign ++ grouped format.digit_grouping digits) same
    ∙ sym q.whole

-- the digits of two numbers in one radix are equal if and only if the numbers are
pub digits_equal_iff : (r m n : ℕ) (s t : List ℕ) → 2 ≤ r → IsDigits r m s → IsDigits r n t → (s ≡ t) ↔ (m ≡ n)
digits_equal_iff r m n s t two p q = (
  λ same. equal_from_IsDigits r m n _ (rw same at p) q,
  λ same. digits_unique r n s t two (rw same at p) q,
)

-- the texts of two numbers with leading zeros in one width are equal if and only if the numbers are
pub padded_equal_iff : (r width m n : ℕ) (s t : List ℕ) → IsPadded r width m s → IsPadded r width n t
    → (s ≡ t) ↔ (m ≡ n)
padded_equal_iff r width m n s t p q = (
  λ same. equal_from_IsPadded r width m n _ (rw same at p) q,
  λ same. padded_unique r width n s t (rw same at p) q,
)

-- the texts of two numbers in one format are equal if and only if the numbers are
pub texts_equal_iff : (m n : ℤ) (format : Format) (s t : List ℕ) → 2 ≤ format.mantissa_radix → IsText m format s
    → IsText n format t → (s ≡ t) ↔ (m ≡ n)
texts_equal_iff m n format s t two p q = (
  λ same. equal_from_IsText m n format _ (rw same at p) q,
  λ same. texts_unique n format s t two (rw same at p) q,
)
