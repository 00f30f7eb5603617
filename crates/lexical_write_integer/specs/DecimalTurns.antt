-- What the decimal writers note in a counter, one number (a note) for each pair of digits after the first, and what
-- the writer of every radix notes.
use Rattle.std.specs.Prelude.{ℕ, ◌-◌, ◌*◌, ◌/◌, ◌%◌, ◌^◌, List, [], ◌++◌, map, nat_lt, if◌then◌else◌, ◌==◌}
use Rattle.std.specs.List.{range_with_len}
use Rattle.lexical_write_integer.specs.LoopTurns.{table_notes, table_turns}

-- 100 times the part after the point, which has 32 bits there: of a fraction, of 100 times it, and so on
abbrev pub products : ℕ → ℕ → List ℕ
products fraction pairs = map (λ j. fraction * 100 ^ j % 2 ^ 32 * 100) (range_with_len 0 pairs)

-- the last `pairs` pairs of digits of a number, the last one first
abbrev pub pairs_from_back : ℕ → ℕ → List ℕ
pairs_from_back number pairs = map (λ j. number / 100 ^ j % 100) (range_with_len 0 pairs)

-- noted for a type of up to 32 bits: nothing below 100, and otherwise the products of the fraction for that length
unfoldable pub decimal_notes_32 : ℕ → List ℕ
decimal_notes_32 n =
    if nat_lt n 100 then []
    else (if nat_lt n (10 ^ 4) then products (n * 42949673) 1
    else (if nat_lt n (10 ^ 6) then products (n * 429497) 2
    else (if nat_lt n (10 ^ 8) then products (n * 281474978 / 2 ^ 16) 3
    else (if nat_lt n (10 ^ 9) then products (n * 1441151882 / 2 ^ 25) 4
    else products (n * 1441151881 / 2 ^ 25) 4))))

-- noted for a type of 64 bits: below 10 ^ 9 as for 32 bits; for ten digits the products of their fraction; for more
-- digits as for the digits before the last ten, and then the last five pairs
unfoldable pub decimal_notes_64 : ℕ → List ℕ
decimal_notes_64 n =
    if nat_lt n (10 ^ 9) then decimal_notes_32 n
    else (if nat_lt n (10 ^ 10) then products (n * 11529215047 / 2 ^ 28) 4
    else decimal_notes_32 (n / 10 ^ 10) ++ pairs_from_back n 5)

-- noted for a type with this number of bits
abbrev pub decimal_notes : ℕ → ℕ → List ℕ
decimal_notes bits n = if bits == 64 then decimal_notes_64 n else decimal_notes_32 n

-- noted by the decimal writer in radix 10, and otherwise by the table writer
abbrev pub write_notes : ℕ → ℕ → ℕ → List ℕ
write_notes bits r n = if r == 10 then decimal_notes bits n else table_notes r n

-- the length of `write_notes` for a number with this number of digits: 9 for 20 digits in radix 10
abbrev pub write_turns : ℕ → ℕ → ℕ
write_turns r digits = if r == 10 then (digits - 1) / 2 else table_turns r digits
