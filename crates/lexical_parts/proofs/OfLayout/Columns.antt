-- The text of a part, and the bytes that are written before or after it, are a text in a column.
use Rattle.std.proofs.Common.{◌≡◌, ℕ, ◌+◌, ◌-◌, ◌/◌, List, ◌++◌, take, drop, replicate, refl, ap, ◌∙◌, arith}
use Rattle.std.proofs.Common.{length-append}
use Rattle.std.proofs.lemmas.List.{length-replicate}
use Rattle.lexical_write_integer.specs.Buffer.{Front, Writes}
use Rattle.lexical_write_integer.specs.Sequence.{IsExactly}
use Rattle.lexical_write_integer.proofs.Buffers.Prefixes.{Writes-after, take-Writes}
use Rattle.lexical_parts.specs.Column.{IsAtLeft, IsAtRight, IsCentered}
use Rattle.lexical_parts.proofs.OfLayout.Inserts.{Front-over}

-- bytes written after a text
pub written_left : {Is : List ℕ → Type 0} {width fill : ℕ} {before between part : List ℕ} {count more : ℕ} (room : ℕ) →
    Writes Is before between count →
    Writes (IsExactly (replicate (width - count) fill)) (take room (drop count between)) part more →
    Writes (IsAtLeft width fill Is) before (take count between ++ (part ++ drop room (drop count between)))
    (count + more)
written_left {width = width} {fill} {before} {between} {part} {count} {more} room written filled =
    grind (arith, Writes-after)

-- bytes written before a text, which has moved to the right
written_before : {Is IsWhole : List ℕ → Type 0} (fill added : ℕ) {before between after : List ℕ} {count : ℕ}
    (written : Writes Is before between count) →
    Front between after (replicate added fill ++ take count between) → IsWhole (replicate added fill ++ written.text) →
    Writes IsWhole before after (added + count)
written_before fill added {before} {between} {count = count} written moved whole =
    let long = length-append (replicate added fill) written.text in
    record {
      text = replicate added fill ++ written.text;
      is = whole;
      front = Front-over written.front (rw (take-Writes before between count written) at moved) (omega (arith, long));
      count = omega (arith, long, length-replicate {A = ℕ} added fill, written.count);
    }

-- copies of the fill before a text, up to the width, make it a text at the right of a column
pub written_right : {Is : List ℕ → Type 0} {width fill added : ℕ} {before between after : List ℕ} {count : ℕ} →
    Writes Is before between count → added ≡ width - count
    → Front between after (replicate added fill ++ take count between) →
    Writes (IsAtRight width fill Is) before after (added + count)
written_right {width = width} {fill} written is_added moved =
    let whole = ap (λ added. replicate added fill ++ written.text)
    (is_added ∙ ap (λ count. width - count) written.count) in
    written_before fill _ written moved (record { cell = written.text; is = written.is; whole = whole })

-- bytes written before a text and after it
pub written_center : {Is : List ℕ → Type 0} {width fill added : ℕ} {before between moved part : List ℕ}
    {count more : ℕ} (room : ℕ) →
    Writes Is before between count → added ≡ width - count
    → Front between moved (replicate (added / 2) fill ++ take count between) →
    Writes (IsExactly (replicate (added - added / 2) fill)) (take room (drop (added / 2 + count) moved)) part more →
    Writes (IsCentered width fill Is) before (take (added / 2 + count) moved
    ++ (part ++ drop room (drop (added / 2 + count) moved)))
    (added / 2 + count + more)
written_center {width = width} {fill} {added} {before} {moved = moved} {part} {count}
    {more} room written is_added filled_before filled_after =
    let before_and_text = written_before {IsWhole = IsExactly (replicate (added / 2) fill ++ written.text)} fill
    (added / 2) written filled_before refl in
    let whole = ap (λ added. (replicate (added / 2) fill ++ written.text) ++ replicate (added - added / 2) fill)
    (is_added ∙ ap (λ count. width - count) written.count) in
    grind (arith, Writes-after)
