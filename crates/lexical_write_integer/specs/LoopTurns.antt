-- What writers that divide by powers of the radix append to a counter: the quotients of a number (their notes), and how
-- many these are (turns). They are those of a loop that removes some digits in each iteration.
use Rattle.std.specs.Prelude.{◌≡◌, ℕ, ◌+◌, ◌-◌, ◌*◌, ◌/◌, ◌%◌, ◌^◌, List, [], ◌∷◌, ◌++◌, map}
use Rattle.std.specs.Prelude.{Bool, ◌||◌, ◌==◌, nat_lt, if◌then◌else◌}
use Rattle.std.specs.List.{range_with_len}
use Rattle.lexical_write_integer.specs.DigitCount.{digit_count}

-- how many digits an iteration removes
pub data IsStep : ℕ → Type 0 where
  takes_one : IsStep 1
  takes_two : IsStep 2
  takes_four : IsStep 4

-- how many digits a number has after its first one
abbrev pub digits_after_first : ℕ → ℕ → ℕ
digits_after_first r number = digit_count r number - 1

-- the quotients of a number after one iteration, two iterations and so on, each of which removes `step` digits: for 255
-- in radix 3, two digits at a time, 28 and 3
unfoldable pub quotients : ℕ → ℕ → ℕ → ℕ → List ℕ
quotients r number step count = map (λ turn. number / r ^ (step * turn)) (range_with_len 1 count)

-- a loop that removes `step` digits per iteration, while the number has more than that, and notes each quotient: how
-- many digits are removed, the remaining quotient, and the notes before and after
pub record RemovesDigits (r number step removed left : ℕ) (before after : List ℕ) : Type 0 where
  pub count : removed ≡ step * (digits_after_first r number / step)
  pub rest : left ≡ number / r ^ removed
  pub notes : after ≡ before ++ quotients r number step (digits_after_first r number / step)

-- ---- the notes

-- four digits per iteration while more than four are left, then two if more than two are left: for 255 in radix 3,
-- which has six digits, 3
unfoldable pub loop_notes : ℕ → ℕ → List ℕ
loop_notes r number =
    quotients r number 4 (digits_after_first r number / 4)
    ++ (if nat_lt (digits_after_first r number % 4) 2 then []
    else number / r ^ (4 * (digits_after_first r number / 4) + 2) ∷ [])

-- `loop_notes`, and then one digit if two are left: for 255 in radix 3, 3 and 1
unfoldable pub slow_notes : ℕ → ℕ → List ℕ
slow_notes r number =
    loop_notes r number ++ (if digit_count r number % 2 == 0 then number / r ^ digits_after_first r number ∷ [] else [])

-- a radix in which digits are counted without a division
abbrev pub has_fast_count : ℕ → Bool
has_fast_count r = r == 2 || (r == 4 || (r == 8 || (r == 10 || (r == 16 || r == 32))))

-- noted by the digit count: nothing if the digits are counted without a division
unfoldable pub count_notes : ℕ → ℕ → List ℕ
count_notes r number = if has_fast_count r then [] else slow_notes r number

-- noted by the table writer: the quotients of the count, and then those of the writing, also where one division gives
-- a quotient of both: for 255 in radix 3, 3, 1 and 3
unfoldable pub table_notes : ℕ → ℕ → List ℕ
table_notes r number = count_notes r number ++ loop_notes r number

-- noted by the compact writer, which removes one digit per iteration: for 255 in radix 16, 15
unfoldable pub compact_notes : ℕ → ℕ → List ℕ
compact_notes r number = quotients r number 1 (digits_after_first r number)

-- ---- how many notes there are, for a number with this number of digits

-- four digits per iteration, and then two: 16 for 64 digits
abbrev pub loop_turns : ℕ → ℕ
loop_turns digits = (digits - 1) / 4 + (if nat_lt ((digits - 1) % 4) 2 then 0 else 1)

-- and then one digit: 17 for 64 digits
abbrev pub slow_turns : ℕ → ℕ
slow_turns digits = loop_turns digits + (if digits % 2 == 0 then 1 else 0)

abbrev pub count_turns : ℕ → ℕ → ℕ
count_turns r digits = if has_fast_count r then 0 else slow_turns digits

-- those of the digit count and of the writer's loops: 21 for 40 digits in radix 3
abbrev pub table_turns : ℕ → ℕ → ℕ
table_turns r digits = count_turns r digits + loop_turns digits

abbrev pub compact_turns : ℕ → ℕ
compact_turns digits = digits - 1
