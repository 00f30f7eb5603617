-- The characters of digits, the signs and the separators between groups are ASCII.
use Rattle.std.proofs.Common.{Option, Bool, ◌==◌, ℕ, ◌<◌, ◌≤◌, ◌%◌, List, [], ◌∷◌, ◌++◌, length, map, arith, ℤ}
use Rattle.std.specs.List.{All}
use Rattle.std.specs.Option.{ForSome}
use Rattle.std.specs.Str.{IsAscii}
use Rattle.std.proofs.lemmas.Bool.{cond_both}
use Rattle.std.proofs.lemmas.Bool.Decides.{nat_tests}
use Rattle.std.proofs.lemmas.List.Elements.{All-nil, All-cons, All-head, All-tail, All-map, All-append}
use Rattle.std.proofs.lemmas.Str.Ascii.{IsAscii-from_all}
use Rattle.lexical_num.specs.Digit.{digit_char}
use Rattle.lexical_num.specs.Format.{Format, IsGrouping}
use Rattle.lexical_num.specs.Sign.{sign_of}
use Rattle.lexical_write_integer.specs.Groups.{mark_before, in_groups, grouped}
use Rattle.lexical_write_integer.specs.Text.{IsText}

abbrev AllAscii : List ℕ → Type 0
AllAscii = All (λ b. b < 128)

-- a byte below 128 alone is a text whose bytes are all below 128
AllAscii-one : (b : ℕ) → b < 128 → AllAscii (b ∷ [])
AllAscii-one b small = All-cons (λ b. b < 128) b [] small (All-nil (λ b. b < 128))

-- the character of a digit below 36 is ASCII
pub digit_char-ascii : (d : ℕ) → d < 36 → digit_char d < 128
digit_char-ascii d small = grind (arith, nat_tests)

-- the characters of digits in a radix of at most 36 are all below 128
AllAscii-digit_chars : (r : ℕ) (digits : List ℕ) → r ≤ 36 → All (λ d. d < r) digits → AllAscii (map digit_char digits)
AllAscii-digit_chars r digits few below =
    All-map (λ b. b < 128) digit_char digits (λ k d less. digit_char-ascii _ (omega (arith, below k d less)))

-- bytes below 128 in groups, with a separator below 128, are all below 128
AllAscii-in_groups : (grouping : ℕ × ℕ) (bytes : List ℕ) → grouping.1 < 128 → AllAscii bytes
    → AllAscii (in_groups grouping bytes)
AllAscii-in_groups grouping [] mark all = all
AllAscii-in_groups grouping (byte ∷ []) mark all = all
AllAscii-in_groups grouping (byte ∷ next ∷ bytes) mark all =
    let right = length (next ∷ bytes) in
    let marks = cond_both (right % grouping.0 == 0) (grouping.1 ∷ []) [] AllAscii (λ _. AllAscii-one grouping.1 mark)
    (λ _. All-nil (λ b. b < 128)) in
    let rest = AllAscii-in_groups grouping (next ∷ bytes) mark (All-tail (λ b. b < 128) byte (next ∷ bytes) all) in
    All-cons (λ b. b < 128) byte (mark_before grouping right ++ in_groups grouping (next ∷ bytes))
    (All-head (λ b. b < 128) byte (next ∷ bytes) all)
    (All-append (λ b. b < 128) (mark_before grouping right) (in_groups grouping (next ∷ bytes)) marks rest)

-- bytes below 128, in the groups of a format if it has any, are all below 128 if these groups are valid
AllAscii-grouped : (grouping : Option (ℕ × ℕ)) (bytes : List ℕ) → ForSome grouping IsGrouping → AllAscii bytes
    → AllAscii (grouped grouping bytes)
AllAscii-grouped grouping bytes good all = grind (arith, AllAscii-in_groups)

-- the characters of the digits of a radix of at most 36 are below 128
pub IsAscii-digit_chars : (r : ℕ) (digits : List ℕ) → r ≤ 36 → All (λ d. d < r) digits → IsAscii (map digit_char digits)
IsAscii-digit_chars r digits few below =
    IsAscii-from_all (map digit_char digits) (AllAscii-digit_chars r digits few below)

-- the bytes of the sign of a number are below 128
AllAscii-sign : (x : ℤ) (required : Bool) → AllAscii (sign_of x required)
AllAscii-sign x required = grind arith

-- the bytes of the text of a number, in a radix of at most 36, are below 128, if its groups are valid
pub IsAscii-IsText : (x : ℤ) (format : Format) (text : List ℕ)
    → format.mantissa_radix ≤ 36 → ForSome format.digit_grouping IsGrouping → IsText x format text → IsAscii text
IsAscii-IsText x format text few good is =
    grind (arith, AllAscii-digit_chars, All-append, AllAscii-sign, AllAscii-grouped, IsAscii-from_all)
