use Rattle.std.proofs.Common.{◌≡◌, ℕ, ◌+◌, ◌<◌, ◌≤◌, [], ◌∷◌, List, Bool, true, false, length, set, leb, refl, arith}
use Rattle.lexical_write_integer.specs.Buffer.{WritesDigits}
use Rattle.lexical_write_integer.proofs.OfDigits.Decimal.FirstPairs.{IsFirstPair, WritesDigits-one, WritesDigits-two}
use Rattle.lexical_write_integer.proofs.digits.decimal.decimal_pairs.write_first_pair.Goals as goal
use mir.Val.{bool_byte}

-- the digits of the first pair, where a single digit is written over the zero after it
digits : (pair first second : ℕ) (is_pair : Bool) (list : List ℕ) → IsFirstPair pair first second → pair < 100
    → 2 ≤ length list → leb 10 pair ≡ is_pair
    → WritesDigits 10 pair (set (set list 1 second) 0 first) (set (set list 1 second) 0 first) (1 + bool_byte is_pair)
digits pair first second is_pair [] p small room e = absurd (omega arith)
digits pair first second is_pair (x ∷ []) p small room e = absurd (omega arith)
digits pair first second true (x ∷ (y ∷ list)) p small room e =
    WritesDigits-two pair first second p small e (omega arith) refl
digits pair first second false (x ∷ (y ∷ list)) p small room e =
    WritesDigits-one pair first second p small e (omega arith) refl

pub returns-clause-digits : goal.returns-clause-digits
returns-clause-digits c =
    let first = c.first_pair-first.ensures in
    digits c.args.pair _ _ _ c.args.buffer.now record {
      one = first.one;
      two = first.two;
    } c.requires.pair c.requires.room refl
