-- The table is the list of its entries, which is computed.
use Rattle.std.proofs.Common.{◌≡◌, ℕ, ◌+◌, ◌*◌, ◌/◌, ◌%◌, ◌<◌, get_or, refl, ap, ◌∙◌, arith}
use Rattle.std.specs.Prelude.{if◌then◌else◌, ◌==◌, nat_lt}
use Rattle.std.proofs.lemmas.Bool.{le-ltb}
use Rattle.std.proofs.lemmas.List.FromFn.{get_or-map-range_with_len}
use Rattle.lexical_num.specs.Digit.{digit_char}
use Rattle.lexical_write_integer.specs.declared.digits.decimal.decimal_pairs.TheConstants.{LEFT_ALIGNED_PAIRS}
use Rattle.lexical_write_integer.proofs.digits.decimal.decimal_pairs.first_pair.Goals as goal

-- the digit at an index of the table: of the number at half the index
digit_at : ℕ → ℕ
digit_at i = if i % 2 == 0 then (if nat_lt i 20 then i / 2 else i / 20) else (if nat_lt i 20 then 0 else i / 2 % 10)

entry : (i : ℕ) → i < 200 → get_or LEFT_ALIGNED_PAIRS i 0 ≡ digit_char (digit_at i)
unfolding digit_at
entry i within = get_or-map-range_with_len (λ j. digit_char (digit_at j)) 0 200 i i 0 within (omega arith)

first_is : (pair : ℕ) → digit_at (2 * pair) ≡ (if nat_lt (2 * pair) 20 then pair else pair / 10)
unfolding digit_at
first_is pair = grind arith

second_is : (pair : ℕ) → digit_at (2 * pair + 1) ≡ (if nat_lt (2 * pair + 1) 20 then 0 else pair % 10)
unfolding digit_at
second_is pair = grind arith

pub returns-clause-one : goal.returns-clause-one
returns-clause-one c small = grind arith

pub returns-clause-two : goal.returns-clause-two
returns-clause-two c large =
    let pair = c.args.pair in
    let first : digit_at (2 * pair) ≡ pair / 10 = first_is pair ∙ rw (le-ltb (2 * pair) 20 (omega arith)) refl in
    let second : digit_at (2 * pair + 1) ≡ pair % 10 =
    second_is pair ∙ rw (le-ltb (2 * pair + 1) 20 (omega arith)) refl in (
      entry (2 * pair) (omega (arith, c.requires)) ∙ ap digit_char first,
      entry (2 * pair + 1) (omega (arith, c.requires)) ∙ ap digit_char second,
    )
