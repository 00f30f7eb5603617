-- Numbers without groups have no byte that is neither a letter, a digit nor a sign.
use Rattle.std.proofs.Common.{ℕ, ◌<◌, ◌≤◌, Bool, true, false, List, [], map, sym, arith, ℤ, pos, negsuc}
use Rattle.std.specs.Prelude.{◌≢◌}
use Rattle.std.specs.List.{All}
use Rattle.std.specs.Char.{IsNotAsciiAlphanumeric}
use Rattle.std.proofs.lemmas.List.Elements.{All-nil, All-cons, All-map}
use Rattle.lexical_num.specs.Digit.{digit_char}
use Rattle.lexical_num.specs.Sign.{sign_of}
use Rattle.lexical_write_integer.specs.Text.{IsDigits}

-- a byte that is neither a letter nor a digit is not the character of a digit below 36
digit_is_none : (p d : ℕ) → IsNotAsciiAlphanumeric p → d < 36 → digit_char d ≢ p
digit_is_none p d other small same = grind arith

-- a sign has no byte other than `+` and `-`
pub sign_is_none : (p : ℕ) (x : ℤ) (required : Bool) → p ≢ 43 → p ≢ 45 → All (λ b. b ≢ p) (sign_of x required)
sign_is_none p (negsuc n) required plus minus = All-cons (λ b. b ≢ p) 45 [] (λ e. minus (sym e)) (All-nil (λ b. b ≢ p))
sign_is_none p (pos n) true plus minus = All-cons (λ b. b ≢ p) 43 [] (λ e. plus (sym e)) (All-nil (λ b. b ≢ p))
sign_is_none p (pos n) false plus minus = All-nil (λ b. b ≢ p)

-- no character of a digit below 36 is a byte that is neither a letter nor a digit
pub digit_chars_have_no : (p r : ℕ) (digits : List ℕ) → r ≤ 36 → IsNotAsciiAlphanumeric p → All (λ d. d < r) digits
    → All (λ b. b ≢ p) (map digit_char digits)
digit_chars_have_no p r digits few other below =
    All-map (λ b. b ≢ p) digit_char digits (λ k d l. digit_is_none p _ other (omega (arith, below k d l)))

-- no text of digits has a byte that is neither a letter nor a digit
pub digits_have_no : (p r n : ℕ) (text : List ℕ) → r ≤ 36 → IsNotAsciiAlphanumeric p → IsDigits r n text
    → All (λ b. b ≢ p) text
digits_have_no p r n text few other is =
    rw is.characters (digit_chars_have_no p r is.digits few other is.numeral.numeral.below_radix)
