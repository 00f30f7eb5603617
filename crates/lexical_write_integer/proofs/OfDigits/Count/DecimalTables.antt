-- The tables that the decimal digit counts read.
use Rattle.std.proofs.Common.{◌≡◌, ℕ, zero, suc, ◌+◌, ◌-◌, ◌*◌, ◌/◌, ◌^◌, ◌<◌, ◌≤◌, Bool, true, ◌&&◌, ◌||◌, ltb, leb}
use Rattle.std.proofs.Common.{eqb, List, [], ◌∷◌, length, map, get_or}
use Rattle.std.proofs.Common.{refl, sym, ap, ◌∙◌, inl, inr, add-zero, zero-add, arith}
use Rattle.std.proofs.Math.Nat.{pow-le-pow_right}
use Rattle.std.proofs.lemmas.Bool.{and_parts, or_cases, cases_lt, leb-true, ltb-true, eqb-true}
use Rattle.std.proofs.lemmas.List.{get_or-map, length-map}
use Rattle.std.proofs.lemmas.List.FromFn.{get_or-map-range_with_len}
use Rattle.lexical_write_integer.specs.Logarithm.{IsLog2}
use Rattle.lexical_write_integer.specs.DigitCount.{digit_count}
use Rattle.lexical_write_integer.specs.PowersOfTen.{IsPowersOfTen}
use Rattle.lexical_write_integer.specs.declared.digits.count.decimal_count.TheConstants.{DIGITS_BY_LOG2}
use Rattle.lexical_write_integer.proofs.OfDigits.Count.DigitCounts.{digit_count-is}
use Rattle.lexical_write_integer.proofs.OfDigits.Powers.{pow-lt_more}
use Rattle.lexical_write_integer.proofs.OfDigits.Count.Logarithms.{IsLog2-lt}

-- ---- powers of ten

-- in a table of powers of ten, the entry at index i is 10 ^ (i + 1)
pub entry_is : {X : Type 0} (limit : ℕ) (number : X → ℕ) (table : List X) (i : ℕ) (entry : X)
    → i < length table → entry ≡ get_or table i entry → IsPowersOfTen limit (map number table)
    → number entry ≡ 10 ^ (i + 1)
entry_is limit number table i entry within is powers =
    let count = length-map table number in
    ap number is
    ∙ sym (get_or-map number table i entry 0 within)
    ∙ ap (λ list. get_or list i 0) powers.rising
    ∙ get_or-map-range_with_len (λ e. 10 ^ e) 1 (length (map number table)) i (i + 1) 0 (omega arith) (omega arith)

-- at an index past the end of the table, that power is not below the limit
pub past_table : {X : Type 0} (limit : ℕ) (number : X → ℕ) (table : List X) (i : ℕ)
    → length table ≤ i → IsPowersOfTen limit (map number table) → limit ≤ 10 ^ (i + 1)
past_table limit number table i past powers = grind (arith, length-map, pow-le-pow_right)

-- ---- the table that is indexed by the position of the highest bit

-- every number whose highest bit is at position k has at least this number of digits
no_fewer : ℕ → ℕ → Bool
no_fewer k digits = leb digits 1 || leb (10 ^ (digits - 1)) (2 ^ k)

-- if the test says that numbers whose highest bit is at position k have at least `digits` digits, and these are more
-- than one, such a number is at least 10 ^ (digits - 1)
no_fewer-sound : (k digits number : ℕ) → no_fewer k digits ≡ true → IsLog2 number k → 1 < digits
    → 10 ^ (digits - 1) ≤ number
unfolding no_fewer
no_fewer-sound k digits number test log several =
    elim (or_cases (leb digits 1) (leb (10 ^ (digits - 1)) (2 ^ k)) test) [
      | inl few ↦ absurd (omega (arith, leb-true digits 1 few))
      | inr low ↦ elim (cases_lt 0 number) [
        | inl some ↦ omega (arith, leb-true (10 ^ (digits - 1)) (2 ^ k) low, (log.of_positive some).within)
        | inr none ↦
            let first : k ≡ 0 = log.of_zero (omega arith) in
            let one : 10 ^ (digits - 1) ≤ 2 ^ 0 = rw first at (leb-true (10 ^ (digits - 1)) (2 ^ k) low) in
            absurd (omega (arith, pow-lt_more 10 0 (digits - 1) (omega arith) (omega arith)))
      ]
    ]

-- The entry is c * 2^32 - p: c is the largest digit count of the numbers whose highest bit is at position k, and p is
-- the power of ten below which they have one digit fewer, or 0 if there are none.
is_row : ℕ → ℕ → ℕ → Bool
is_row k c p =
    leb (2 ^ (k + 1)) (10 ^ c)
    && ((eqb p 0 && no_fewer k c) || (ltb 1 c && (ltb p 4294967296 && (eqb p (10 ^ (c - 1)) && no_fewer k (c - 1)))))

-- the digit count c of an entry c * 2 ^ 32 - p with p below 2 ^ 32: the entry divided by 2 ^ 32, rounded up
digits_of_row : ℕ → ℕ
digits_of_row entry = (entry + 4294967295) / 4294967296

-- whether an entry is not 0 and passes the test of a row for position k, as c * 2 ^ 32 - p with p below 2 ^ 32
is_entry : ℕ → ℕ → Bool
is_entry k entry = ltb 0 entry && is_row k (digits_of_row entry) (digits_of_row entry * 4294967296 - entry)

-- whether each entry of a list passes the test of an entry for its position, if the first one has position k
are_entries : ℕ → List ℕ → Bool
are_entries k [] = true
are_entries k (entry ∷ rest) = is_entry k entry && are_entries (suc k) rest

-- if each entry of a list passes the test for its position, and the first one has position k, the entry at index i
-- passes it for position k + i
are_entries-each : (k : ℕ) (entries : List ℕ) (i : ℕ) → are_entries k entries ≡ true → i < length entries
    → is_entry (k + i) (get_or entries i 0) ≡ true
unfolding are_entries
are_entries-each k [] i all within = absurd (omega arith)
are_entries-each k (entry ∷ rest) zero all within =
    rw add-zero (and_parts (is_entry k entry) (are_entries (suc k) rest) all).0
are_entries-each k (entry ∷ rest) (suc i) all within =
    let place : k + suc i ≡ suc k + i = omega arith in
    rw place (are_entries-each (suc k) rest i (and_parts (is_entry k entry) (are_entries (suc k) rest) all).1
    (omega arith))

-- if c, which is not 0, and p pass the test of a row for position k, the sum of c * 2 ^ 32 - p and a number below
-- 2 ^ 32 whose highest bit is there, divided by 2 ^ 32, is the digit count of the number in decimal
row-digits : (k c p entry number : ℕ)
    → 0 < c → entry + p ≡ c * 4294967296 → number < 4294967296 → is_row k c p ≡ true → IsLog2 number k
    → (number + entry) / 4294967296 ≡ digit_count 10 number
unfolding is_row
row-digits k c p entry number some whole fits test log =
    grind (
      arith,
      and_parts,
      IsLog2-lt,
      leb-true,
      or_cases,
      digit_count-is,
      no_fewer-sound,
      eqb-true,
      ltb-true,
      cases_lt,
    )

-- if an entry passes the test for position k, the sum of the entry and a number below 2 ^ 32 whose highest bit is
-- there, divided by 2 ^ 32, is the digit count of the number in decimal
entry-digits : (k entry number : ℕ) → is_entry k entry ≡ true → number < 4294967296 → IsLog2 number k
    → (number + entry) / 4294967296 ≡ digit_count 10 number
unfolding is_entry digits_of_row
entry-digits k entry number test fits log = grind (arith, and_parts, ltb-true, row-digits)

-- each entry of the table `DIGITS_BY_LOG2` passes the test for its index as the position of the highest bit
DIGITS_BY_LOG2-are_entries : are_entries 0 DIGITS_BY_LOG2 ≡ true
unfolding are_entries is_entry digits_of_row is_row no_fewer
DIGITS_BY_LOG2-are_entries = refl

-- a number below 2 ^ 32, plus the entry for its highest bit, has its digit count above the low 32 bits
pub fast_digit_count-is : (k number : ℕ)
    → k < 32 → number < 4294967296 → IsLog2 number k → (number + get_or DIGITS_BY_LOG2 k 0) / 4294967296
    ≡ digit_count 10 number
fast_digit_count-is k number place fits log =
    entry-digits k (get_or DIGITS_BY_LOG2 k 0) number
    (rw zero-add at (are_entries-each 0 DIGITS_BY_LOG2 k DIGITS_BY_LOG2-are_entries place)) fits log
