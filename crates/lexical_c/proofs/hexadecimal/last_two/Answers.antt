-- The table is the list of its entries, which is computed.
use Rattle.std.proofs.Common.{◌≡◌, ℕ, ◌+◌, ◌*◌, ◌/◌, ◌%◌, ◌<◌, get_or, ap, ◌∙◌, arith}
use Rattle.std.specs.Prelude.{if◌then◌else◌, ◌==◌}
use Rattle.std.specs.Char.{to_ascii_lowercase}
use Rattle.std.proofs.lemmas.List.FromFn.{get_or-map-range_with_len}
use Rattle.lexical_num.specs.Digit.{digit_char}
use Rattle.lexical_c.specs.declared.hexadecimal.TheConstants.{PAIRS}
use Rattle.lexical_c.proofs.hexadecimal.last_two.Goals as goal

-- the digit at an index of the table: of the number at half the index
digit_at : ℕ → ℕ
digit_at i = if i % 2 == 0 then i / 32 else i / 2 % 16

entry : (i : ℕ) → i < 512 → get_or PAIRS i 0 ≡ to_ascii_lowercase (digit_char (digit_at i))
unfolding digit_at
entry i within = get_or-map-range_with_len (λ j. to_ascii_lowercase (digit_char (digit_at j))) 0 512 i i 0 within
    (omega arith)

pub returns-clause-first : goal.returns-clause-first
unfolding digit_at
returns-clause-first c =
    let digit : digit_at (2 * (c.args.number % 256)) ≡ c.args.number / 16 % 16 = grind arith in
    entry (2 * (c.args.number % 256)) (omega arith) ∙ ap (λ d. to_ascii_lowercase (digit_char d)) digit

pub returns-clause-second : goal.returns-clause-second
unfolding digit_at
returns-clause-second c =
    let digit : digit_at (2 * (c.args.number % 256) + 1) ≡ c.args.number % 16 = grind arith in
    entry (2 * (c.args.number % 256) + 1) (omega arith) ∙ ap (λ d. to_ascii_lowercase (digit_char d)) digit
