-- The decimal text of a number is what `{}` prints.
use Rattle.std.proofs.Common.{◌≡◌, ℕ, suc, ◌+◌, ◌/◌, ◌%◌, ◌^◌, ◌<◌, ◌≤◌, List, [], ◌∷◌, ◌++◌, ap, ◌∙◌, arith, ℤ, pos}
use Rattle.std.proofs.Common.{negsuc, unsigned_abs}
use Rattle.std.specs.Fmt.{decimal, signed_decimal}
use Rattle.std.proofs.lemmas.Bool.Decides.{nat_tests}
use Rattle.std.proofs.lemmas.Fmt.{decimal_by_steps}
use Rattle.lexical_num.specs.Digit.{digit_char}
use Rattle.lexical_num.specs.Format.{standard}
use Rattle.lexical_write_integer.specs.Text.{IsDigits, IsText}
use Rattle.lexical_write_integer.proofs.OfTexts.ComputedTexts.{IsDigits-one, IsDigits-more}
use Rattle.lexical_write_integer.proofs.OfDigits.Numerals.{digits_unique}

-- ---- the digits

-- the characters of the digits 0 to 9 are the bytes from 48 on
pub digit_char-decimal : (d : ℕ) → d < 10 → digit_char d ≡ 48 + d
digit_char-decimal d small = grind (arith, nat_tests)

-- the text of a number below 10 in decimal is one byte, which is the number plus 48
one_digit : (n : ℕ) → n < 10 → IsDigits 10 n ((48 + n) ∷ [])
one_digit n small = rw (digit_char-decimal n small) at (IsDigits-one 10 n small)

-- the decimal digits of the quotient by 10, and then the byte that is the remainder plus 48, are the decimal digits of
-- a number that is at least 10
more_digits : (n : ℕ) (text : List ℕ) → 10 ≤ n → IsDigits 10 (n / 10) text
    → IsDigits 10 n (text ++ ((48 + n % 10) ∷ []))
more_digits n text big is =
    let small : n % 10 < 10 = omega arith in
    rw (digit_char-decimal (n % 10) small) at (IsDigits-more 10 n text (omega arith) big is)

-- what `{}` prints of a number below 2 ^ 64 is its digits in decimal
IsDigits-decimal : (n : ℕ) → n < 2 ^ 64 → IsDigits 10 n (decimal n)
IsDigits-decimal = decimal_by_steps (IsDigits 10) one_digit more_digits

-- the text of a number in the standard format is what `{}` prints, if its magnitude is below 2 ^ 64
pub text_is_decimal : (x : ℤ) (text : List ℕ) → unsigned_abs x < 2 ^ 64 → IsText x standard text
    → text ≡ signed_decimal x
text_is_decimal (pos n) text small is = is.whole
    ∙ digits_unique 10 n is.digits (decimal n) (omega arith) is.magnitude (IsDigits-decimal n small)
text_is_decimal (negsuc n) text small is =
    is.whole ∙ ap (λ digits. 45 ∷ digits) (digits_unique 10 (suc n) is.digits (decimal (suc n)) (omega arith)
    is.magnitude (IsDigits-decimal (suc n) small))
