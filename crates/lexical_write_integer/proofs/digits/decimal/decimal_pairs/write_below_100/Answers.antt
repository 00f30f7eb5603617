use Rattle.std.proofs.Common.{◌≡◌, ℕ, ◌+◌, ◌<◌, ◌≤◌, [], ◌∷◌, List, Bool, true, false, length, set, leb, refl, arith}
use Rattle.std.proofs.Common.{length-set}
use Rattle.lexical_write_integer.specs.Buffer.{WritesDigits}
use Rattle.lexical_write_integer.specs.DigitCount.{digit_count}
use Rattle.lexical_write_integer.proofs.OfDigits.Count.DigitCounts.{digit_count-pos}
use Rattle.lexical_write_integer.proofs.OfDigits.Decimal.FirstPairs.{IsFirstPair, digit_count-below_100, WritesDigits-one}
use Rattle.lexical_write_integer.proofs.OfDigits.Decimal.FirstPairs.{WritesDigits-two}
use Rattle.lexical_write_integer.proofs.digits.decimal.decimal_pairs.write_below_100.Goals as goal
use mir.Val.{bool_byte}

-- the second digit, and then the first one, over it if it is the only one
digits : (pair first second : ℕ) (is_pair : Bool) (list : List ℕ) → IsFirstPair pair first second → pair < 100
    → digit_count 10 pair ≤ length list
    → leb 10 pair ≡ is_pair → WritesDigits 10 pair list (set (set list (bool_byte is_pair) second) 0 first)
    (1 + bool_byte is_pair)
digits pair first second true [] p small room e = absurd (omega (arith, digit_count-below_100 pair true small e))
digits pair first second true (x ∷ []) p small room e = absurd (omega (arith, digit_count-below_100 pair true small e))
digits pair first second true (x ∷ (y ∷ list)) p small room e =
    WritesDigits-two pair first second p small e (omega arith) refl
digits pair first second false [] p small room e = absurd (omega (arith, digit_count-below_100 pair false small e))
digits pair first second false (x ∷ list) p small room e =
    WritesDigits-one pair first second p small e (omega arith) refl

pub bounds-buffer-is_pair : goal.bounds-buffer-is_pair
bounds-buffer-is_pair c = omega (arith, digit_count-below_100 c.args.pair _ c.requires.pair refl)

pub bounds-buffer-0 : goal.bounds-buffer-0
bounds-buffer-0 c = omega (arith, digit_count-pos 10 c.args.pair, length-set {A = ℕ})

pub returns-clause-digits : goal.returns-clause-digits
returns-clause-digits c =
    let first = c.first_pair-first.ensures in
    digits c.args.pair _ _ _ c.args.buffer.now record {
      one = first.one;
      two = first.two;
    } c.requires.pair c.requires.room refl
