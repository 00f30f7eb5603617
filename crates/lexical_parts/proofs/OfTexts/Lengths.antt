-- The lengths of texts of parts.
use Rattle.std.proofs.Common.{◌≡◌, ℕ, zero, suc, ◌+◌, ◌-◌, ◌*◌, ◌/◌, ◌%◌, ◌^◌, ◌<◌, ◌≤◌, List, [], ◌∷◌, ◌++◌, length}
use Rattle.std.proofs.Common.{take, drop, replicate, refl, sym, ap, ◌∙◌, arith}
use Rattle.std.proofs.Common.{rules, unsigned_abs, ℤ, pos, Bool, false, length-append, codes, inl, inr}
use Rattle.std.proofs.Math.Nat.{div-eq_of_lt}
use Rattle.std.proofs.lemmas.Bool.{cases_lt}
use Rattle.std.specs.Prelude.{max, min}
use Rattle.std.proofs.lemmas.List.{length-map, length-replicate, take-append-drop, append-nil}
use Rattle.lexical_write_integer.specs.Lowercase.{IsLowercase}
use Rattle.lexical_write_integer.specs.Padded.{IsPadded}
use Rattle.lexical_write_integer.specs.Sequence.{IsExactly, Then, AreJoined}
use Rattle.lexical_num.specs.Format.{Format, IsGrouping, grouped_length, standard}
use Rattle.lexical_num.specs.Sign.{sign_of}
use Rattle.lexical_write_integer.specs.Text.{IsDigits, IsText}
use Rattle.lexical_write_integer.proofs.OfTexts.Required.{length-IsText}
use Rattle.lexical_write_integer.specs.DigitCount.{digit_count, digit_count-le}
use Rattle.lexical_write_integer.proofs.OfDigits.Count.DigitCounts.{digit_count-one, digit_count-pos, digit_count-split}
use Rattle.lexical_write_integer.proofs.OfDigits.PaddedDigits.{length-IsPadded}
use Rattle.lexical_write_integer.proofs.OfDigits.Numerals.{length-IsDigits}
use Rattle.lexical_parts.specs.Column.{IsAtLeft, IsAtRight, IsCentered}
use Rattle.lexical_parts.specs.Fixed.{IsFraction, IsGroupedFixed}
use Rattle.lexical_parts.specs.Joined.{AreEach}
use Rattle.lexical_parts.specs.Length.{HasLength, IsOnly}
use Rattle.std.specs.Option.{ForSome}
use Rattle.std.specs.Prelude.{Option}
use Rattle.lexical_write_integer.specs.ZerosAfterSign.{sign_length}
use Rattle.lexical_parts.specs.ZeroPadded.{IsZeroPadded}

-- a text that is exactly these bytes has their length
pub exactly_length : (bytes : List ℕ) (count : ℕ) → count ≡ length bytes → HasLength (IsExactly bytes) count
exactly_length bytes count is = record { each = λ text same. ap length same ∙ sym is }

-- digits are as many as the digit count of the number
pub digits_length : (r number count : ℕ) → 2 ≤ r → count ≡ digit_count r number → HasLength (IsDigits r number) count
digits_length r number count two is = record { each = λ text digits. length-IsDigits r number text two digits ∙ sym is }

-- a number with leading zeros is as long as its width
pub padded_length : (r width number : ℕ) → HasLength (IsPadded r width number) width
padded_length r width number = record { each = λ text is. length-IsPadded r width number text is }

-- a number in decimal is as long as its sign and its digits
pub decimal_length : (number : ℤ) (required : Bool) (count : ℕ)
    → count ≡ length (sign_of number required) + digit_count 10 (unsigned_abs number)
    → HasLength (IsText number (record standard { required_mantissa_sign = required })) count
decimal_length number required count is = record {
  each = λ text texts.
      length-IsText number (record standard { required_mantissa_sign = required }) text (omega arith)
      (λ grouping none. search rules) texts ∙ sym is;
}

-- texts that are all these bytes have the length of one of them
pub only_length : {Is : List ℕ → Type 0} (bytes text : List ℕ) (count : ℕ) → IsOnly Is bytes → Is text
    → count ≡ length text → HasLength Is count
only_length bytes text count one is long = record {
  each = λ other other_is. ap length (one.only other other_is ∙ sym (one.only text is)) ∙ sym long;
}

-- a number in a format is as long as its sign, its digits and the separators between their groups
pub formatted_length : (number : ℤ) (format : Format) (count : ℕ) → 2 ≤ format.mantissa_radix
    → ForSome format.digit_grouping IsGrouping
    → count ≡ length (sign_of number format.required_mantissa_sign)
    + grouped_length format.digit_grouping (digit_count format.mantissa_radix (unsigned_abs number))
    → HasLength (IsText number format) count
formatted_length number format count two good is =
    record { each = λ text texts. length-IsText number format text two good texts ∙ sym is }

-- the lengths of two texts in a row add up
pub then_length : {First Second : List ℕ → Type 0} (first second count : ℕ) → HasLength First first
    → HasLength Second second
    → count ≡ first + second → HasLength (Then First Second) count
then_length first second count one two is = record {
  each = λ text both.
      let whole = ap length both.whole ∙ length-append both.first both.second in
      omega (arith, whole, one.each both.first both.is_first, two.each both.second both.is_second, is);
}

-- ---- numbers with decimals

-- the text of a fraction has a byte for each decimal, and one for the point if there is a decimal
fraction_length : (decimals units : ℕ) → HasLength (IsFraction decimals units) (decimals + min decimals 1)
fraction_length zero units = exactly_length [] 0 refl
fraction_length (suc d) units = then_length 1 (suc d) _ (exactly_length (codes ".") 1 refl)
    (padded_length 10 (suc d) units) (omega arith)

-- the digits before the point
few_whole : (n decimals : ℕ) → n < 10 ^ decimals → max (digit_count 10 n - decimals) 1 ≡ 1
few_whole n zero few = omega (arith, digit_count-one 10 n (omega arith) (omega (arith, few)))
few_whole n (suc d) few = omega (arith, digit_count-le 10 n (suc d) (omega arith) few)

-- a division by 10 ^ decimals leaves a number of `decimals` decimal digits fewer, but of at least one digit
whole_digits : (n decimals : ℕ) → max (digit_count 10 n - decimals) 1 ≡ digit_count 10 (n / 10 ^ decimals)
whole_digits n decimals = elim (cases_lt n (10 ^ decimals)) [
  | inl few ↦
      let one : digit_count 10 (n / 10 ^ decimals) ≡ 1 =
      rw (div-eq_of_lt few) (digit_count-one 10 0 (omega arith) (omega arith)) in
      few_whole n decimals few ∙ sym one
  | inr many ↦ omega (arith, digit_count-split 10 decimals n (omega arith) many, digit_count-pos 10 (n / 10 ^ decimals))
]

-- the sign, the whole part in groups, of one digit at least, and the point with the decimals, if any
pub grouped_fixed_length : (grouping : Option (ℕ × ℕ)) (decimals : ℕ) (number : ℤ) (count : ℕ)
    → ForSome grouping IsGrouping
    → count ≡ length (sign_of number false)
    + (grouped_length grouping (max (digit_count 10 (unsigned_abs number) - decimals) 1) + (decimals + min decimals 1))
    → HasLength (IsGroupedFixed grouping decimals number) count
grouped_fixed_length grouping decimals number count good is =
    let whole = unsigned_abs number / 10 ^ decimals in
    let digits = whole_digits (unsigned_abs number) decimals in
    let before = formatted_length (pos whole) (record standard { digit_grouping = grouping })
    (grouped_length grouping (digit_count 10 whole)) (omega arith) good (omega arith) in
    let units = then_length _ _ _ before (fraction_length decimals (unsigned_abs number % 10 ^ decimals)) refl in
    then_length _ _ count (exactly_length (sign_of number false) _ refl) units
    (is ∙ ap (λ k. length (sign_of number false) + (grouped_length grouping k + (decimals + min decimals 1))) digits)

-- if each text of kind A is one of kind B, and all texts of kind B have a length, so have those of kind A
pub length_of_kind : {A B : List ℕ → Type 0} (count : ℕ) → ((text : List ℕ) → A text → B text) → HasLength B count
    → HasLength A count
length_of_kind count change texts = record { each = λ text is. texts.each text (change text is) }

-- a text in lowercase is as long as it was
pub lower_length : {Is : List ℕ → Type 0} (count : ℕ) → HasLength Is count → HasLength (IsLowercase Is) count
lower_length count texts = record {
  each = λ text is. ap length is.whole ∙ length-map is.original _
      ∙ texts.each is.original is.is;
}

-- a text at the left of a column has the width of the column, or its own length if that is greater
pub at_left_length : {Is : List ℕ → Type 0} (width fill count whole : ℕ) → HasLength Is count → whole ≡ max count width
    → HasLength (IsAtLeft width fill Is) whole
at_left_length width fill count whole texts most = record {
  each = λ text is.
      let long = ap length is.whole ∙ length-append is.cell (replicate (width - length is.cell) fill) in
      omega (arith, long, length-replicate {A = ℕ} (width - length is.cell) fill, texts.each is.cell is.is, most);
}

-- a text at the right of a column has the width of the column, or its own length if that is greater
pub at_right_length : {Is : List ℕ → Type 0} (width fill count whole : ℕ) → HasLength Is count → whole ≡ max count width
    → HasLength (IsAtRight width fill Is) whole
at_right_length width fill count whole texts most = record {
  each = λ text is.
      let long = ap length is.whole ∙ length-append (replicate (width - length is.cell) fill) is.cell in
      omega (arith, long, length-replicate {A = ℕ} (width - length is.cell) fill, texts.each is.cell is.is, most);
}

-- a text in the middle of a column has the width of the column, or its own length if that is greater
pub centered_length : {Is : List ℕ → Type 0} (width fill count whole : ℕ) → HasLength Is count → whole ≡ max count width
    → HasLength (IsCentered width fill Is) whole
centered_length width fill count whole texts most = record {
  each = λ text is.
      let before = (width - length is.cell) / 2 in
      let after = width - length is.cell - before in
      let long = ap length is.whole ∙ length-append (replicate before fill ++ is.cell) (replicate after fill) in
      let left = length-append (replicate before fill) is.cell in
      omega (
        arith,
        long,
        left,
        length-replicate {A = ℕ} before fill,
        length-replicate {A = ℕ} after fill,
        texts.each is.cell is.is,
        most,
      );
}

-- a text with zeros after its sign has the width, or its own length if that is greater
pub zero_padded_length : {Is : List ℕ → Type 0} (width count whole : ℕ) → HasLength Is count → whole ≡ max count width
    → HasLength (IsZeroPadded width Is) whole
zero_padded_length width count whole texts most = record {
  each = λ text is.
      let sign = take (sign_length is.number) is.number in
      let rest = drop (sign_length is.number) is.number in
      let zeros = replicate (width - length is.number) 48 in
      let long = ap length is.whole ∙ length-append sign (zeros ++ rest) in
      let split = sym (length-append sign rest) ∙ ap length (take-append-drop (sign_length is.number) is.number) in
      omega (
        arith,
        long,
        length-append zeros rest,
        split,
        length-replicate {A = ℕ} (width - length is.number) 48,
        texts.each is.number is.is,
        most,
      );
}

-- if n is one more than m, then n times k is k more than m times k
mul-one_more : (n m k : ℕ) → n ≡ m + 1 → n * k ≡ k + m * k
mul-one_more n m k is = rw is (grind arith)

-- the texts of the elements, without the separators between them
pub joined_each : {A : Type 0} (IsOf : A → List ℕ → Type 0) (separator : List ℕ) (xs : List A) (text : List ℕ)
    → AreJoined IsOf separator xs text
    → (each : List ℕ) × AreEach IsOf xs each × (length text ≡ length each + (length xs - 1) * length separator)
joined_each IsOf separator [] text is = ([], refl, grind arith)
joined_each IsOf separator (x ∷ []) text is = (
  text,
  record {
    first = text;
    second = [];
    is_first = is;
    is_second = refl;
    whole = sym (append-nil text);
  },
  grind arith,
)
joined_each IsOf separator (x ∷ y ∷ xs) text is =
    let rest = joined_each IsOf separator (y ∷ xs) is.is_second.second is.is_second.is_second in
    let whole = ap length is.whole ∙ length-append is.first is.second in
    let tail = ap length is.is_second.whole ∙ length-append is.is_second.first is.is_second.second in
    let between = ap length is.is_second.is_first in (
      is.first ++ rest.0,
      record { first = is.first; second = rest.0; is_first = is.is_first; is_second = rest.1; whole = refl },
      omega (
        arith,
        length-append is.first rest.0,
        whole,
        tail,
        between,
        rest.2,
        mul-one_more (length (x ∷ y ∷ xs) - 1) (length (y ∷ xs) - 1) (length separator) (omega arith),
      ),
    )

-- joined texts are as long as the texts of the elements and the separators between them
pub joined_length : {A : Type 0} (IsOf : A → List ℕ → Type 0) (separator : List ℕ) (xs : List A) (count whole : ℕ)
    → HasLength (AreEach IsOf xs) count
    → whole ≡ count + (length xs - 1) * length separator → HasLength (AreJoined IsOf separator xs) whole
joined_length IsOf separator xs count whole each is = record {
  each = λ text joined.
      let parts = joined_each IsOf separator xs text joined in
      parts.2 ∙ ap (λ k. k + (length xs - 1) * length separator) (each.each parts.0 parts.1) ∙ sym is;
}

-- the text of the last element
each_last : {A : Type 0} (IsOf : A → List ℕ → Type 0) (xs : List A) (x : A) (text : List ℕ)
    → AreEach IsOf (xs ++ x ∷ []) text
    → (s : List ℕ) × (t : List ℕ) × AreEach IsOf xs s × IsOf x t × (length text ≡ length s + length t)
each_last IsOf [] x text is =
    let whole = ap length is.whole ∙ length-append is.first is.second in
    let none = ap length is.is_second in
    ([], is.first, refl, is.is_first, grind (arith, whole, none))
each_last IsOf (y ∷ ys) x text is =
    let rest = each_last IsOf ys x is.second is.is_second in
    let whole = ap length is.whole ∙ length-append is.first is.second in (
      is.first ++ rest.0,
      rest.1,
      record { first = is.first; second = rest.0; is_first = is.is_first; is_second = rest.2; whole = refl },
      rest.3,
      omega (arith, whole, length-append is.first rest.0, rest.4),
    )

-- one further element adds the length of its text
pub each_more : {A : Type 0} (IsOf : A → List ℕ → Type 0) (xs : List A) (x : A) (count more : ℕ)
    → HasLength (AreEach IsOf xs) count → HasLength (IsOf x) more
    → HasLength (AreEach IsOf (xs ++ x ∷ [])) (count + more)
each_more IsOf xs x count more each last = record {
  each = λ text is.
      let both = each_last IsOf xs x text is in
      omega (arith, both.4, each.each both.0 both.2, last.each both.1 both.3);
}

-- the texts of elements that all have the same length
pub each_same : {A : Type 0} (IsOf : A → List ℕ → Type 0) (width : ℕ) → ((x : A) → HasLength (IsOf x) width)
    → (xs : List A)
    → HasLength (AreEach IsOf xs) (length xs * width)
each_same IsOf width all [] = record { each = λ text is. let none = ap length is in grind (arith, none) }
each_same IsOf width all (x ∷ xs) = record {
  each = λ text is.
      let whole = ap length is.whole ∙ length-append is.first is.second in
      let first = (all x).each is.first is.is_first in
      let rest = (each_same IsOf width all xs).each is.second is.is_second in
      grind (arith, whole, first, rest);
}

-- what the check uses for the lengths of texts
pub ruleset lengths = (
  exactly_length,
  digits_length,
  padded_length,
  then_length,
  lower_length,
  at_left_length,
  at_right_length,
  centered_length,
  zero_padded_length,
)
