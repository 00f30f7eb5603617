-- Blocks of digits in a buffer: how they join, and how the digits of a number are made of them.
use Rattle.std.proofs.Common.{◌≡◌, ℕ, ◌+◌, ◌-◌, ◌*◌, ◌/◌, ◌%◌, ◌^◌, ◌<◌, ◌≤◌, List, ◌++◌, length, take, drop, set, map}
use Rattle.std.proofs.Common.{sym, ap, subst, ◌∙◌, add_assoc}
use Rattle.std.proofs.Common.{append_assoc, length-drop, take-take, arith}
use Rattle.std.proofs.Math.Nat.{pow-zero, one-le-pow, mod-lt, div-add-mod', add-mul, mul_assoc}
use Rattle.std.proofs.lemmas.List.{map-append, append-nil, drop_all, drop-set, take-set, length-take-le, take_at}
use Rattle.std.proofs.lemmas.List.{drop_at, drop-drop}
use Rattle.std.proofs.lemmas.Nat.{pow-add, mul-add-lt, mod-mul-add}
use Rattle.lexical_num.specs.Digit.{digit_char}
use Rattle.lexical_write_integer.specs.Buffer.{WritesBlock}
use Rattle.lexical_write_integer.specs.DigitCount.{digit_count}
use Rattle.lexical_write_integer.specs.Numeral.{IsBlockOf}
use Rattle.lexical_write_integer.specs.Text.{IsDigits}
use Rattle.lexical_write_integer.proofs.OfDigits.Count.DigitCounts.{digit_count-pos, digit_count-left, digit_count-more}
use Rattle.lexical_write_integer.proofs.OfDigits.Powers.{div-pow_more}
use Rattle.lexical_write_integer.proofs.OfDigits.Numerals.{IsBlockOf-one, IsBlockOf-append, IsNumeralOf-block}
use borrow.Rule.Slice.PartMut.{put_mid}

-- a digit that is written at an index is a block of one digit
pub WritesBlock-one : (r d at : ℕ) (list : List ℕ) → d < r → at < length list
    → WritesBlock r 1 d at list (set list at (digit_char d))
WritesBlock-one r d at list small room = search (arith, IsBlockOf-one, drop-set, take-set)

-- the characters of a block, copied to index `at_index`
pub WritesBlock-copied : (at_index : ℕ) {r count n : ℕ} {digits before characters : List ℕ}
    → IsBlockOf r count n digits → characters ≡ map digit_char digits → at_index + count ≤ length before
    → WritesBlock r count n at_index before (put_mid at_index (at_index + count - at_index) before characters)
WritesBlock-copied at_index {count = count} {digits = digits} {before} {characters} block are room =
    grind (arith, length-take-le, drop_at, drop-drop, take_at)

-- a block that fills a part of the buffer
pub WritesBlock-part : (at_index : ℕ) {r count n : ℕ} {before part : List ℕ}
    → at_index + count ≤ length before → WritesBlock r count n 0
    (take (at_index + count - at_index) (drop at_index before)) part
    → WritesBlock r count n at_index before (put_mid at_index (at_index + count - at_index) before part)
WritesBlock-part at_index {count = count} {before = before} room b =
    grind (arith, length-take-le, length-drop, drop_all, WritesBlock-copied, append-nil)

-- a block that is written to the first bytes alone
pub WritesBlock-first : {r count n : ℕ} {before part : List ℕ}
    → count ≤ length before → WritesBlock r count n 0 (take count before) part
    → WritesBlock r count n 0 before (part ++ drop count before)
WritesBlock-first {count = count} {before = before} room b = grind (arith, length-take-le, drop_all, append-nil)

-- a block before one that is written
pub WritesBlock-front : {r i j m n at : ℕ} {before between after : List ℕ}
    → WritesBlock r j n (at + i) before between → WritesBlock r i m at between after
    → WritesBlock r (i + j) (m * r ^ j + n) at before after
WritesBlock-front {i = i} {at = at} {before} {between} last first = record {
  digits = first.digits ++ last.digits;
  block = IsBlockOf-append first.block last.block;
  written = rw (map-append, append_assoc, ← add_assoc, ← last.written) first.written;
  kept = first.kept
      ∙ sym (take-take at (at + i) between (omega arith))
      ∙ ap (take at) last.kept
      ∙ take-take at (at + i) before (omega arith);
}

-- the last digits of a number, in two parts
pub mod-pow_split : (r n i j : ℕ) → 2 ≤ r → n % r ^ (i + j) ≡ n / r ^ j % r ^ i * r ^ j + n % r ^ j
mod-pow_split r n i j two =
    let p = r ^ j in
    let s = r ^ i in
    let q = n / p in
    let first = mod-lt q {m = s} (one-le-pow i r (omega arith)) in
    let last = mod-lt n {m = p} (one-le-pow j r (omega arith)) in
    let low : q % s * p + n % p < s * p = omega (arith, mul-add-lt (q % s) p (n % p) s first last) in
    let parts : q / s * (s * p) + (q % s * p + n % p) ≡ n =
    ap (λ k. k + (q % s * p + n % p)) (sym (mul_assoc (q / s) s p))
    ∙ omega (arith, add-mul (q / s * s) (q % s) p, ap (λ k. k * p) (div-add-mod' q s), div-add-mod' n p) in
    grind (arith, pow-add, mod-mul-add)

-- the next digits of a number, before its last ones
pub WritesBlock-next : {r taken step at : ℕ} (n : ℕ) {before between after : List ℕ}
    → 2 ≤ r → WritesBlock r taken (n % r ^ taken) (at + step) before between
    → WritesBlock r step (n / r ^ taken % r ^ step) at between after
    → WritesBlock r (step + taken) (n % r ^ (step + taken)) at before after
WritesBlock-next {r} {taken} {step} n two last first =
    rw (mod-pow_split r n step taken two) (WritesBlock-front last first)

-- the first digits of a number, before its last ones
pub WritesBlock-whole : {r n taken rest count at : ℕ} {before between after : List ℕ}
    → rest ≡ n / r ^ taken → WritesBlock r taken (n % r ^ taken) (at + count) before between
    → WritesBlock r count rest at between after
    → WritesBlock r (count + taken) n at before after
WritesBlock-whole {r} {n} {taken} is last first =
    rw (div-add-mod' n (r ^ taken)) at (WritesBlock-front last (rw is at first))

-- ---- a number that is written from its last digit

-- the last `taken` digits of n are at index `at`, and `rest` is the quotient that remains, of at least one digit
pub record IsWrittenBack (r n taken rest at : ℕ) (before after : List ℕ) : Type 0 where
  pub fewer : taken < digit_count r n
  pub left : rest ≡ n / r ^ taken
  pub block : WritesBlock r taken (n % r ^ taken) at before after

-- before the first digit is written, the whole number remains
pub IsWrittenBack-start : {r n at : ℕ} {list : List ℕ} → IsWrittenBack r n 0 n at list list
IsWrittenBack-start {r} {n} = grind (arith, digit_count-pos, pow-zero)

-- an equal index
pub IsWrittenBack-at : {r n taken rest at at' : ℕ} {before after : List ℕ}
    → at ≡ at' → IsWrittenBack r n taken rest at before after → IsWrittenBack r n taken rest at' before after
IsWrittenBack-at {r} {n} {taken} {rest} {before = before} {after} same w =
    subst (λ k. IsWrittenBack r n taken rest k before after) same w

-- the digits that remain and those that are written are the number's
pub IsWrittenBack-counts : {r n taken rest at : ℕ} {before after : List ℕ}
    → 2 ≤ r → IsWrittenBack r n taken rest at before after → digit_count r rest + taken ≡ digit_count r n
IsWrittenBack-counts {r} {n} {taken} {rest} two w = digit_count-left r n taken rest two w.fewer w.left

-- if the digits are written from the back, as many remain as the index says
pub IsWrittenBack-left : {r n count rest at : ℕ} {before after : List ℕ}
    → 2 ≤ r → count ≡ digit_count r n → at ≤ count → IsWrittenBack r n (count - at) rest at before after
    → digit_count r rest ≡ at
IsWrittenBack-left two is within w = omega (arith, IsWrittenBack-counts two w, within, is)

-- `step` further digits, of a number that has more
pub IsWrittenBack-more : {r n taken rest step next at : ℕ} {before between after : List ℕ}
    → 2 ≤ r → r ^ step ≤ rest → next ≡ rest / r ^ step → IsWrittenBack r n taken rest (at + step) before between
    → WritesBlock r step (rest % r ^ step) at between after → IsWrittenBack r n (step + taken) next at before after
IsWrittenBack-more {r} {n} {taken} {rest} {step} two long is w b = record {
  fewer = omega (arith, digit_count-more r step rest two long, IsWrittenBack-counts two w);
  left = is ∙ ap (λ k. k / r ^ step) w.left ∙ div-pow_more r n step taken;
  block = WritesBlock-next n two w.block (rw w.left at b);
}

-- the first digits complete the number
pub IsWrittenBack-last : {r n taken rest count at : ℕ} {before between after : List ℕ}
    → IsWrittenBack r n taken rest (at + count) before between → WritesBlock r count rest at between after
    → WritesBlock r (count + taken) n at before after
IsWrittenBack-last w b = WritesBlock-whole w.left w.block b

-- a block of all digits of the number, to the end of the list, is its text
pub IsDigits-block : (r n count at : ℕ) (before after : List ℕ)
    → 2 ≤ r → digit_count r n ≡ count → at + count ≡ length before → WritesBlock r count n at before after
    → IsDigits r n (drop at after)
IsDigits-block r n count at before after two few just b = grind (arith, drop_all, IsNumeralOf-block, append-nil)
