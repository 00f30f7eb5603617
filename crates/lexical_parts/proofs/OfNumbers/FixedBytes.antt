-- Numbers of units have no byte other than decimal digits, a point and a minus.
use Rattle.std.proofs.Common.{ℕ, zero, suc, ◌<◌, List, [], sym, ℤ, pos, negsuc, false}
use Rattle.std.specs.Prelude.{◌≢◌}
use Rattle.std.specs.List.{All}
use Rattle.std.proofs.lemmas.List.Elements.{All-append, All-cons, All-nil}
use Rattle.lexical_num.specs.Digit.{digit_char}
use Rattle.lexical_num.specs.Sign.{sign_of}
use Rattle.lexical_write_integer.specs.Sequence.{Then}
use Rattle.lexical_parts.specs.Fixed.{IsFixed, IsFraction}
use Rattle.lexical_parts.proofs.OfNumbers.FixedReads.{digits_lack}

-- a byte that is neither a decimal digit, a point nor a minus
module _ (p : ℕ) (digit : (d : ℕ) → d < 10 → digit_char d ≢ p) (point : p ≢ 46) (minus : p ≢ 45) where
  -- is not the sign of a number without a required `+`
  sign_has_no : (x : ℤ) → All (λ b. b ≢ p) (sign_of x false)
  sign_has_no (pos n) = All-nil (λ b. b ≢ p)
  sign_has_no (negsuc n) = All-cons (λ b. b ≢ p) 45 [] (λ e. minus (sym e)) (All-nil (λ b. b ≢ p))

  -- is in no text of two in a row if it is in neither
  then_has_no : {A B : List ℕ → Type 0} {text : List ℕ} (is : Then A B text) → All (λ b. b ≢ p) is.first
      → All (λ b. b ≢ p) is.second
      → All (λ b. b ≢ p) text
  then_has_no is first second = rw is.whole (All-append (λ b. b ≢ p) is.first is.second first second)

  -- is in no fraction, which is a point and decimals or no bytes at all
  fraction_has_no : (d n : ℕ) (text : List ℕ) → IsFraction d n text → All (λ b. b ≢ p) text
  fraction_has_no zero n text is = rw is (All-nil (λ b. b ≢ p))
  fraction_has_no (suc d) n text is =
      let rest = is.is_second in
      then_has_no is (rw is.is_first (All-cons (λ b. b ≢ p) 46 [] (λ e. point (sym e)) (All-nil (λ b. b ≢ p))))
      (digits_lack p rest.digits is.second digit rest.block.below_radix rest.characters)

  -- and is in no text of a number of units, with its sign and its decimal point
  pub fixed_has_no : (d : ℕ) (x : ℤ) (text : List ℕ) → IsFixed d x text → All (λ b. b ≢ p) text
  fixed_has_no d x text is =
      let units = is.is_second in
      let whole = units.is_first in
      then_has_no is (rw is.is_first (sign_has_no x))
      (then_has_no units (digits_lack p whole.digits units.first digit whole.numeral.numeral.below_radix whole.characters)
      (fraction_has_no d _ units.second units.is_second))
