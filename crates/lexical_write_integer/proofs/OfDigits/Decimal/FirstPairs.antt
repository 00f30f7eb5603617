-- The first one or two digits of a number, from their characters.
use Rattle.std.proofs.Common.{◌≡◌, ℕ, ◌+◌, ◌/◌, ◌%◌, ◌<◌, ◌≤◌, [], ◌∷◌, List, Bool, true, false, length, drop, leb}
use Rattle.std.proofs.Common.{refl, sym, arith}
use Rattle.std.proofs.lemmas.Bool.{leb-true, leb-false}
use Rattle.lexical_num.specs.Digit.{digit_char}
use Rattle.lexical_write_integer.specs.Buffer.{WritesDigits}
use Rattle.lexical_write_integer.specs.DigitCount.{digit_count}
use Rattle.lexical_write_integer.proofs.Buffers.BlocksAfter.{WritesDigits-block}
use Rattle.lexical_write_integer.proofs.OfDigits.Count.DigitCounts.{digit_count-is, digit_count-one}
use Rattle.lexical_write_integer.proofs.OfDigits.Numerals.{IsBlockOf-one, IsBlockOf-pair}
use mir.Val.{bool_byte}

-- a number below 100 has two digits if it is at least 10, and otherwise one
pub digit_count-below_100 : (pair : ℕ) (is_pair : Bool) → pair < 100 → leb 10 pair ≡ is_pair
    → 1 + bool_byte is_pair ≡ digit_count 10 pair
digit_count-below_100 pair true small e =
    sym (digit_count-is 10 pair 2 (omega arith) (omega arith) small (λ _. leb-true 10 pair e))
digit_count-below_100 pair false small e = sym (digit_count-one 10 pair (omega arith) (leb-false 10 pair e))

-- the characters of the digits of a number, and any second one if there is only one digit
pub record IsFirstPair (pair first second : ℕ) : Type 0 where
  pub one : pair < 10 → first ≡ digit_char pair
  pub two : 10 ≤ pair → (first ≡ digit_char (pair / 10)) × (second ≡ digit_char (pair % 10))

-- two digits
pub WritesDigits-two : (pair first second : ℕ) {before list : List ℕ} → IsFirstPair pair first second → pair < 100
    → leb 10 pair ≡ true
    → 2 ≤ length before → drop 2 before ≡ list → WritesDigits 10 pair before (first ∷ second ∷ list) 2
WritesDigits-two pair first second p small e room following =
    let two = p.two (leb-true 10 pair e) in
    WritesDigits-block (omega arith) (sym (digit_count-below_100 pair true small e)) room
    (rw (two.0, two.1, ← following) record {
      digits = pair / 10 ∷ pair % 10 ∷ [];
      block = IsBlockOf-pair 10 pair (omega arith) small;
      written = refl;
      kept = refl;
    })

-- a first pair below 10 is one digit
pub WritesDigits-one : (pair first second : ℕ) {before list : List ℕ} → IsFirstPair pair first second → pair < 100
    → leb 10 pair ≡ false
    → 1 ≤ length before → drop 1 before ≡ list → WritesDigits 10 pair before (first ∷ list) 1
WritesDigits-one pair first second p small e room following =
    let below = leb-false 10 pair e in
    WritesDigits-block (omega arith) (sym (digit_count-below_100 pair false small e)) room
    (rw (p.one below, ← following) record {
      digits = pair ∷ [];
      block = IsBlockOf-one 10 pair below;
      written = refl;
      kept = refl;
    })
