-- Blocks of digits that are written from the start of a buffer: a block after another, and after the digits of a
-- number.
use Rattle.std.proofs.Common.{◌≡◌, ℕ, ◌+◌, ◌*◌, ◌/◌, ◌%◌, ◌^◌, ◌≤◌, List, ◌++◌, length, take, drop, map, sym, ap, ◌∙◌}
use Rattle.std.proofs.Common.{add_assoc, zero-add, append_assoc}
use Rattle.std.proofs.Common.{take-take, arith}
use Rattle.std.proofs.lemmas.List.{map-append, length-map, drop-drop, take_at, drop_at, take-append-drop, drop-take}
use Rattle.std.proofs.Math.Nat.{div-add-mod'}
use Rattle.lexical_num.specs.Digit.{digit_char}
use Rattle.lexical_write_integer.specs.Buffer.{WritesBlock, WritesDigits}
use Rattle.lexical_write_integer.specs.DigitCount.{digit_count}
use Rattle.lexical_write_integer.proofs.OfDigits.Count.DigitCounts.{digit_count-split}
use Rattle.lexical_write_integer.proofs.OfDigits.Numerals.{IsBlockOf-append, IsNumeralOf-block}

-- a text is at index `at`, and every byte after it is unchanged
record IsTextAt (at count : ℕ) (before after text : List ℕ) : Type 0 where
  pub long : length text ≡ count
  pub written : drop at after ≡ text ++ drop (at + count) before

-- what is written after a text leaves the text unchanged
text_kept : {at count : ℕ} {before between text : List ℕ} (after : List ℕ)
    → IsTextAt at count before between text → take (at + count) after ≡ take (at + count) between
    → drop at after ≡ text ++ drop (at + count) after
text_kept {at} {count} {before} {between} {text} after t kept =
    let prefix : take count (drop at after) ≡ text =
    sym (drop-take at count after)
    ∙ ap (drop at) kept
    ∙ drop-take at count between
    ∙ ap (take count) t.written
    ∙ take_at text (drop (at + count) before) count t.long in
    sym (take-append-drop count (drop at after))
    ∙ ap (λ ys. ys ++ drop count (drop at after)) prefix
    ∙ ap (λ ys. text ++ ys) (drop-drop count at after)

-- what follows a text is unchanged
rest_kept : {at count : ℕ} {before between text : List ℕ} (more : ℕ)
    → IsTextAt at count before between text → drop (at + count + more) between ≡ drop (at + count + more) before
rest_kept {at} {count} {before} {between} {text} more t =
    let following = sym (drop-drop count at between) ∙ ap (drop count) t.written
    ∙ drop_at text (drop (at + count) before) count t.long in
    sym (drop-drop more (at + count) between) ∙ ap (drop more) following ∙ drop-drop more (at + count) before

-- a block after one that is written
pub WritesBlock-after : {r i j m n at : ℕ} {before between after : List ℕ}
    → WritesBlock r i m at before between → WritesBlock r j n (at + i) between after
    → WritesBlock r (i + j) (m * r ^ j + n) at before after
WritesBlock-after {i = i} {j} {at = at} {before} {between} {after} first last =
    let text = map digit_char first.digits in
    let t : IsTextAt at i before between text = grind (arith, length-map) in
    record {
      digits = first.digits ++ last.digits;
      block = IsBlockOf-append first.block last.block;
      written = rw (map-append, append_assoc, ← add_assoc, ← rest_kept j t, ← last.written)
          (text_kept after t last.kept);
      kept = sym (take-take at (at + i) after (omega arith))
          ∙ ap (take at) last.kept
          ∙ take-take at (at + i) between (omega arith)
          ∙ first.kept;
    }

-- a block of all digits of the number, at the start of the buffer, is its digits
pub WritesDigits-block : {r n count : ℕ} {before after : List ℕ}
    → 2 ≤ r → digit_count r n ≡ count → count ≤ length before → WritesBlock r count n 0 before after
    → WritesDigits r n before after count
WritesDigits-block {r} {n} {count} two few room b = grind (arith, length-map, IsNumeralOf-block)

-- the digits of a number at the start of the buffer are a block
pub WritesBlock-digits : {r n count : ℕ} {before after : List ℕ} → WritesDigits r n before after count
    → WritesBlock r count n 0 before after
WritesBlock-digits {count = count} written = grind (arith, length-map)

-- the last digits of a number, after the digits of the number without them
pub WritesDigits-after : {r count at : ℕ} (n : ℕ) {before between after : List ℕ}
    → 2 ≤ r → r ^ count ≤ n → digit_count r n ≤ length before → WritesDigits r (n / r ^ count) before between at
    → WritesBlock r count (n % r ^ count) at between after → WritesDigits r n before after (at + count)
WritesDigits-after {r} {count} {at} n {after = after} two long room first last =
    let counted : digit_count r n ≡ at + count = omega (arith, digit_count-split r count n two long, first.count) in
    let block = WritesBlock-after {j = count} {n = n % r ^ count} {after = after} (WritesBlock-digits first)
    (rw zero-add last) in
    WritesDigits-block two counted (omega arith) (rw (div-add-mod' n (r ^ count)) at block)
