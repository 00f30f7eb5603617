use Rattle.std.proofs.Common.{◌≡◌, ◌⊎◌, ℕ, ◌+◌, ◌-◌, ◌*◌, ◌/◌, ◌%◌, ◌<◌, ◌≤◌, List, [], ◌∷◌, ◌++◌, length, get_or, take}
use Rattle.std.proofs.Common.{drop, inl, inr, refl, arith}
use Rattle.std.proofs.lemmas.Bool.{cases_lt}
use Rattle.std.proofs.lemmas.List.{take_all}
use Rattle.lexical_num.specs.Format.{IsRadix}
use Rattle.lexical_write_integer.specs.Text.{IsDigits}
use Rattle.lexical_write_integer.proofs.OfDigits.Numerals.{digits_unique}
use Rattle.lexical_write_integer.proofs.OfTexts.ComputedTexts.{IsDigits-one, IsDigits-more}
use Rattle.lexical_write_integer.proofs.OfTexts.PrintedTexts.{digit_char-decimal}
use Rattle.lexical_lines.proofs.request.decimal_parser.split_radix.Goals as goal

one : (r : ℕ) → r < 10 → IsDigits 10 r ((48 + r) ∷ [])
one r small = rw (digit_char-decimal r small) at (IsDigits-one 10 r small)

two : (r : ℕ) → 10 ≤ r → r < 100 → IsDigits 10 r ((48 + r / 10) ∷ (48 + r % 10) ∷ [])
two r big small =
    let last = digit_char-decimal (r % 10) (omega arith) in
    rw last at (IsDigits-more 10 r ((48 + r / 10) ∷ []) (omega arith) big (one (r / 10) (omega arith)))

abbrev Splits : ℕ → List ℕ → List ℕ → Type 0
Splits r text rest = IsRadix r × ((digits : List ℕ) × IsDigits 10 r digits × (text ≡ digits ++ 32 ∷ rest))

after_one : (text : List ℕ) → 50 ≤ get_or text 0 0 → get_or text 0 0 ≤ 57 → get_or text 1 0 ≡ 32
    → Splits (get_or text 0 0 - 48) text (take (length text - 2) (drop 2 text))
after_one (a ∷ b ∷ rest) least most space =
    let is : 48 + (a - 48) ≡ a = omega arith in
    let all = take_all (length (a ∷ b ∷ rest) - 2) rest (omega arith) in (
      record { at_least_two = omega arith; at_most_36 = omega arith },
      (a ∷ [], rw is at (one (a - 48) (omega arith)), cc),
    )
after_one _ least most space = absurd (omega arith)

after_two : (text : List ℕ) (r : ℕ) → r ≡ (get_or text 0 0 - 48) * 10 + (get_or text 1 0 - 48) → IsRadix r
    → 49 ≤ get_or text 0 0
    → 48 ≤ get_or text 1 0 → get_or text 1 0 ≤ 57 → get_or text 2 0 ≡ 32
    → Splits r text (take (length text - 3) (drop 3 text))
after_two (a ∷ b ∷ c ∷ rest) r value valid first least last space =
    let tens : 48 + r / 10 ≡ a = omega arith in
    let ones : 48 + r % 10 ≡ b = omega arith in
    let all = take_all (length (a ∷ b ∷ c ∷ rest) - 3) rest (omega arith) in
    (valid, (a ∷ b ∷ [], rw (tens, ones) at (two r (omega arith) (omega (arith, valid.at_most_36))), cc))
after_two _ r value valid first least last space = absurd (omega arith)

-- the text of a radix has one digit or two
by_digits : (r : ℕ) (digits rest text : List ℕ) → IsRadix r → IsDigits 10 r digits → text ≡ digits ++ 32 ∷ rest
    → ((r < 10) × (text ≡ (48 + r) ∷ 32 ∷ rest)) ⊎ ((10 ≤ r) × (text ≡ (48 + r / 10) ∷ (48 + r % 10) ∷ 32 ∷ rest))
by_digits r digits rest text valid is e = elim (cases_lt r 10) [
  | inl few ↦ inl (few, rw (digits_unique 10 r _ _ (omega arith) is (one r few)) at e)
  | inr many ↦
      inr (many, rw (digits_unique 10 r _ _ (omega arith) is (two r many (omega (arith, valid.at_most_36)))) at e)
]

pub returns-in-32-clause-found : goal.returns-in-32-clause-found
returns-in-32-clause-found c =
    let within = c.if-contains.ensures.cases in
    after_one c.args.text.now (grind (arith, within, c.new.ensures)) (grind (arith, within, c.new.ensures))
    (grind arith)

pub returns-then-is_radix-clause-found : goal.returns-then-is_radix-clause-found
returns-then-is_radix-clause-found c =
    let valid = rw c.from.ensures at (c.is_radix.ensures.0 c.if-is_radix.true) in
    after_two c.args.text.now _ refl valid (grind arith) (grind arith) (grind arith) (grind arith)

pub returns-else-is_radix-clause-none : goal.returns-else-is_radix-clause-none
returns-else-is_radix-clause-none c r digits rest valid is e =
    elim (by_digits r digits rest c.args.text.now valid is e) [
      | inl (few, text) ↦ grind arith
      | inr (many, text) ↦
          let same : r ≡ c.from.result = grind (arith, c.from.ensures) in
          let yes = c.is_radix.ensures.1 (rw same at valid) in
          cc
    ]

pub returns-in_default-clause-none : goal.returns-in_default-clause-none
returns-in_default-clause-none c r digits rest valid is e = elim (by_digits r digits rest c.args.text.now valid is e) [
  | inl (few, text) ↦ let least = valid.at_least_two in grind arith
  | inr (many, text) ↦ let most = valid.at_most_36 in grind arith
]
