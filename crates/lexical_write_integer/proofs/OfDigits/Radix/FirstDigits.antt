-- The first digits of a number, which are written over some of its last ones.
use Rattle.std.proofs.Common.{◌≡◌, ℕ, ◌+◌, ◌-◌, ◌*◌, ◌/◌, ◌%◌, ◌^◌, ◌<◌, ◌≤◌, List, ◌++◌, length, take, drop, map, refl}
use Rattle.std.proofs.Common.{sym, ap}
use Rattle.std.proofs.Common.{subst, ◌∙◌, inl, inr, append_assoc, arith}
use Rattle.std.proofs.Math.Nat.{div-add-mod', mod-lt, mod-eq_of_lt, one-le-pow, pow-le-pow_right}
use Rattle.std.proofs.lemmas.List.Elements.{All-drop}
use Rattle.std.proofs.lemmas.List.{map-append, length-map, length-take-le, length-drop, take-append-drop, drop-drop}
use Rattle.std.proofs.lemmas.List.{drop_at}
use Rattle.std.proofs.lemmas.Bool.{cases_lt}
use Rattle.std.proofs.lemmas.Nat.{mod-mul-add, div_below, pow-add}
use Rattle.lexical_num.specs.Digit.{digit_char}
use Rattle.lexical_write_integer.specs.Buffer.{WritesBlock}
use Rattle.lexical_write_integer.specs.DigitCount.{digit_count}
use Rattle.lexical_write_integer.specs.Numeral.{IsBlockOf, value_of}
use Rattle.lexical_write_integer.proofs.Buffers.Blocks.{mod-pow_split}
use Rattle.lexical_write_integer.proofs.OfDigits.Count.DigitCounts.{digit_count-fits}
use Rattle.lexical_write_integer.proofs.OfDigits.DigitValues.{value_of-append, value_of-lt}
use Rattle.lexical_write_integer.proofs.OfDigits.Numerals.{IsBlockOf-append}
use Rattle.lexical_write_integer.proofs.OfDigits.Powers.{pow-pow, pow-lt_more}

-- ---- the first four digits, as a number

-- the remainder that a shift to the left computes
pub power_of_two : (r bits : ℕ) → r ≡ 1 * 2 ^ bits % 4294967296 → bits < 32 → r ≡ 2 ^ bits
power_of_two r bits is few =
    let small = pow-lt_more 2 bits 32 (omega arith) few in
    let same : 1 * 2 ^ bits ≡ 2 ^ bits = omega arith in
    is ∙ ap (λ k. k % 4294967296) same ∙ mod-eq_of_lt small

-- a shift by the bits of `count` digits
pub shift-lt : (r bits n count : ℕ) → r ≡ 1 * 2 ^ bits % 4294967296 → bits < 32 → n < 2 ^ 64 → r ^ count ≤ n
    → bits * count < 64
shift-lt r bits n count is few fits long =
    let power : r ^ count ≡ 2 ^ (bits * count) = rw (power_of_two r bits is few) (pow-pow 2 bits count) in
    elim (cases_lt (bits * count) 64) [
      | inl less ↦ less
      | inr more ↦
          absurd (omega (
            arith,
            power,
            fits,
            long,
            pow-le-pow_right {n = 2} (omega arith) {i = 64} {j = bits * count} more,
          ))
    ]

-- what the shift leaves of a number with more digits
pub first_four : (r bits n count : ℕ)
    → 2 ≤ r → r ≡ 1 * 2 ^ bits % 4294967296 → bits < 32 → count ≡ digit_count r n → 4 < count
    → n / 2 ^ (bits * (count - 4)) % r ^ 4 ≡ n / r ^ (count - 4)
first_four r bits n count two is few counted more =
    let taken = count - 4 in
    let order : count ≡ 4 + taken = omega arith in
    let fits : n < r ^ count = rw counted (digit_count-fits r n two) in
    let below = div_below n (r ^ taken) (r ^ 4) (one-le-pow taken r (omega arith)) (rw (← pow-add, ← order) fits) in
    rw (← pow-pow 2 bits taken, ← power_of_two r bits is few) (mod-eq_of_lt below)

-- ---- where they are written

-- the last digits of a block
IsBlockOf-last : (r k j m : ℕ) (digits : List ℕ) → 2 ≤ r → IsBlockOf r (k + j) m digits
    → IsBlockOf r j (m % r ^ j) (drop k digits)
IsBlockOf-last r k j m digits two b =
    let first = take k digits in
    let last = drop k digits in
    let parts : first ++ last ≡ digits = take-append-drop k digits in
    let long : length last ≡ j = omega (arith, length-drop k digits, b.counted) in
    let below = All-drop (λ d. d < r) k digits b.below_radix in
    let whole : m ≡ value_of r first * r ^ j + value_of r last =
    sym b.value ∙ ap (value_of r) (sym parts) ∙ value_of-append r first last
    ∙ ap (λ e. value_of r first * r ^ e + value_of r last) long in
    let small : value_of r last < r ^ j = rw (← long) (value_of-lt r last below) in
    record {
      counted = long;
      below_radix = below;
      value = rw whole (sym (mod-mul-add (value_of r first) (r ^ j) (value_of r last) small));
    }

-- the last digits of a number's last digits
last_of_last : (r n k j : ℕ) → 2 ≤ r → n % r ^ (k + j) % r ^ j ≡ n % r ^ j
last_of_last r n k j two =
    let small = mod-lt n {m = r ^ j} (one-le-pow j r (omega arith)) in
    rw (mod-pow_split r n k j two) (mod-mul-add (n / r ^ j % r ^ k) (r ^ j) (n % r ^ j) small)

-- the last `taken` digits from index `at`, and then the first `wide` at the start, are the number
pub WritesBlock-first : (r n at wide taken rest count : ℕ) {before between after : List ℕ}
    → 2 ≤ r → at ≤ wide → at + taken ≡ count → wide + rest ≡ count
    → WritesBlock r taken (n % r ^ taken) at before between → WritesBlock r wide (n / r ^ rest) 0 between after
    → WritesBlock r count n 0 before after
WritesBlock-first r n at_index wide taken rest count {before} {between} {after} two few whole all last first =
    let k = wide - at_index in
    let head = take k last.digits in
    let tail = drop k last.digits in
    let parts : taken ≡ k + rest = omega arith in
    let block : IsBlockOf r (k + rest) (n % r ^ (k + rest)) last.digits =
    subst (λ e. IsBlockOf r e (n % r ^ e) last.digits) parts last.block in
    let low = rw (last_of_last r n k rest two) at
    (IsBlockOf-last r k rest (n % r ^ (k + rest)) last.digits two block) in
    let long : length (map digit_char head) ≡ k = grind (arith, length-map, length-take-le) in
    let texts : map digit_char last.digits ≡ map digit_char head ++ map digit_char tail =
    ap (map digit_char) (sym (take-append-drop k last.digits)) ∙ map-append digit_char head tail in
    let start : 0 + wide ≡ at_index + k = omega arith in
    let end : at_index + taken ≡ 0 + count = omega arith in
    let following : drop (0 + wide) between ≡ map digit_char tail ++ drop (0 + count) before =
    ap (λ e. drop e between) start
    ∙ sym (drop-drop k at_index between)
    ∙ ap (drop k) (last.written ∙ ap (λ cs. cs ++ drop (at_index + taken) before) texts
    ∙ append_assoc (map digit_char head) (map digit_char tail) _)
    ∙ drop_at (map digit_char head) (map digit_char tail ++ drop (at_index + taken) before) k long
    ∙ ap (λ e. map digit_char tail ++ drop e before) end in
    record {
      digits = first.digits ++ tail;
      block = rw (all, div-add-mod' n (r ^ rest)) at (IsBlockOf-append first.block low);
      written = rw (map-append, append_assoc, ← following) first.written;
      kept = refl;
    }
