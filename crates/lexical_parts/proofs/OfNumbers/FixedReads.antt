-- The text of a number of units without its point, which std reads as the number of units.
use Rattle.std.proofs.Common.{◌≡◌, ◌≢◌, ℕ, zero, suc, ◌/◌, ◌^◌, ◌<◌, List, [], ◌∷◌, ◌++◌, map}
use Rattle.std.proofs.Common.{refl, ap, ◌∙◌, ℤ, not, ◌==◌, false, arith}
use Rattle.std.proofs.Common.{div-one}
use Rattle.std.specs.Prelude.{unsigned_abs}
use Rattle.std.specs.List.{All, filter}
use Rattle.std.proofs.lemmas.Bool.{cond-true, ne_eqb, not_from_false}
use Rattle.std.proofs.lemmas.List.{append-nil}
use Rattle.std.proofs.lemmas.List.Elements.{All-head, All-tail, All-map, filter-append}
use Rattle.lexical_num.specs.Digit.{digit_char}
use Rattle.lexical_num.specs.Sign.{sign_of}
use Rattle.lexical_write_integer.specs.Sequence.{Then}
use Rattle.lexical_write_integer.proofs.OfTexts.ReadTexts.{IsSigned, digits_read, padded_read}
use Rattle.lexical_write_integer.proofs.OfTexts.Separators.{sign_is_none}
use Rattle.lexical_parts.specs.Fixed.{IsFixed}
use Rattle.lexical_parts.specs.Without.{IsWithout}
use Rattle.lexical_parts.proofs.OfNumbers.Points.{padded_around_point}

abbrev others : List ℕ → List ℕ
others = filter (λ b. not (b == 46))

-- a text without a point is unchanged when its points are left out
kept : (xs : List ℕ) → All (λ b. b ≢ 46) xs → others xs ≡ xs
kept [] none = refl
kept (x ∷ xs) none =
    cond-true _ _ _ (not_from_false _ (ne_eqb x 46 (All-head (λ b. b ≢ 46) x xs none)))
    ∙ ap (λ l. x ∷ l) (kept xs (All-tail (λ b. b ≢ 46) x xs none))

-- the character of a decimal digit is not a point
digit_is_no_point : (d : ℕ) → d < 10 → digit_char d ≢ 46
digit_is_no_point d small same = grind arith

-- digits have no byte p that is not one of the ten
pub digits_lack : (p : ℕ) (ds text : List ℕ) → ((d : ℕ) → d < 10 → digit_char d ≢ p) → All (λ d. d < 10) ds
    → text ≡ map digit_char ds → All (λ b. b ≢ p) text
digits_lack p ds text other below characters =
    let all : All (λ d. digit_char d ≢ p) ds = λ k d l. other _ (below k d l) in
    rw characters (All-map (λ b. b ≢ p) digit_char ds all)

-- a text of decimal digits has no point
no_point : (ds text : List ℕ) → All (λ d. d < 10) ds → text ≡ map digit_char ds → All (λ b. b ≢ 46) text
no_point ds text = digits_lack 46 ds text digit_is_no_point

-- without their points, two texts in a row are the first without its points and then the second without its points
others_then : {A B : List ℕ → Type 0} {text : List ℕ} (is : Then A B text)
    → others text ≡ others is.first ++ others is.second
others_then is = ap others is.whole ∙ filter-append (λ b. not (b == 46)) is.first is.second

-- the sign of a number, `-` or nothing if no `+` is required, has no point
no_sign : (x : ℤ) → All (λ b. b ≢ 46) (sign_of x false)
no_sign x = sign_is_none 46 x false (λ e. grind arith) (λ e. grind arith)

-- the sign and the digits before the point are kept
before_point : (d : ℕ) (x : ℤ) (text : List ℕ) (is : IsFixed d x text)
    → others text ≡ sign_of x false ++ (is.is_second.first ++ others is.is_second.second)
before_point d x text is =
    let units = is.is_second in
    let whole = units.is_first in
    let digits = kept units.first (no_point whole.digits units.first whole.numeral.numeral.below_radix whole.characters)
    in
    others_then is ∙ ap (λ l. others l ++ others is.second) is.is_first
    ∙ ap (λ l. l ++ others is.second) (kept _ (no_sign x))
    ∙ ap (λ l. sign_of x false ++ l) (others_then units ∙ ap (λ l. l ++ others units.second) digits)

-- the text without its point is a sign and digits, which std reads as the number of units
pub fixed_read : (d : ℕ) (x : ℤ) (text : List ℕ) → IsWithout 46 (IsFixed d x) text → IsSigned 10 x false text
fixed_read zero x text w =
    let units = w.is.is_second in
    record {
      digits = units.first;
      whole = w.whole ∙ before_point zero x w.original w.is
          ∙ ap (λ l. sign_of x false ++ l) (ap (λ l. units.first ++ others l) units.is_second ∙ append-nil units.first);
      read = rw (div-one (unsigned_abs x)) at (digits_read 10 (unsigned_abs x / 10 ^ 0) units.first (omega arith)
          units.is_first);
    }
fixed_read (suc d) x text w =
    let units = w.is.is_second in
    let fraction = units.is_second in
    let q = fraction.second in
    let digits =
    kept q (no_point fraction.is_second.digits q fraction.is_second.block.below_radix fraction.is_second.characters)
    in
    record {
      digits = units.first ++ q;
      whole = w.whole ∙ before_point (suc d) x w.original w.is
          ∙ ap (λ l. sign_of x false ++ (units.first ++ l))
          (others_then fraction ∙ ap (λ l. others l ++ others q) fraction.is_first ∙ digits);
      read = padded_read 10 _ (unsigned_abs x) (units.first ++ q) (omega arith) (omega arith)
          (padded_around_point units.is_first fraction.is_second);
    }
