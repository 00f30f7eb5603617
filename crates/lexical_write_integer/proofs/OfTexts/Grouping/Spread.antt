-- Digits that are put into groups in place, byte by byte from the last.
use Rattle.std.proofs.Common.{◌≡◌, ℕ, zero, suc, ◌+◌, ◌-◌, ◌*◌, ◌/◌, ◌%◌, ◌<◌, ◌≤◌, List, [], ◌∷◌, ◌++◌, length, take}
use Rattle.std.proofs.Common.{drop, get_or, set, refl, sym, ap, ◌∙◌}
use Rattle.std.proofs.Common.{append_assoc, arith}
use Rattle.std.proofs.Math.Nat.{add-div_right, div-eq_of_lt, mul-mod_left}
use Rattle.std.proofs.lemmas.List.{append-nil, drop-set, length-set, take_more, take-set-le}
use Rattle.std.proofs.lemmas.Nat.{mod-mul-add}
use Rattle.lexical_write_integer.specs.Buffer.{Front}
use Rattle.lexical_write_integer.specs.Groups.{in_groups}
use Rattle.lexical_write_integer.proofs.OfTexts.Grouping.Digits.{in_groups-more, mark_before-whole, mark_before-part}
use Rattle.lexical_write_integer.proofs.OfTexts.Grouping.Digits.{HasRoomInGroups, length-in_groups_taken}

-- The first `left` digits have not moved. `behind` is written from index `end`: what follows a further digit in groups,
-- with a separator first if `in_group`, the number of digits in the group that is being written, is 0.
pub record IsSpread (grouping : ℕ × ℕ) (count total left end in_group : ℕ) (before between : List ℕ) : Type 0 where
  pub moved : List ℕ
  pub behind : List ℕ
  pub groups : ℕ
  pub fits : HasRoomInGroups grouping count total before
  pub many : length moved ≡ groups * grouping.0 + in_group
  pub few : in_group ≤ grouping.0
  pub some : 0 < left + in_group
  pub place : end ≡ left + (left + in_group - 1) / grouping.0
  pub room : end ≤ length between
  pub digits : take count before ≡ take left between ++ moved
  pub written : drop end between ≡ behind ++ drop total before
  pub next : (digit : ℕ) → in_group < grouping.0 → in_groups grouping (digit ∷ moved) ≡ digit ∷ behind
  pub whole : 0 < in_group → in_groups grouping moved ≡ behind

-- before the first byte is written, no digit has moved
pub IsSpread-start : {grouping : ℕ × ℕ} {count total : ℕ} {before : List ℕ}
    → HasRoomInGroups grouping count total before → IsSpread grouping count total count total 0 before before
IsSpread-start {grouping} {count} {total} {before} h =
    let none : count + 0 ≡ count = omega arith in
    record {
      moved = [];
      behind = [];
      groups = 0;
      fits = h;
      many = omega arith;
      few = omega arith;
      some = omega (arith, h.some);
      place = h.total_count ∙ ap (λ n. count + (n - 1) / grouping.0) (sym none);
      room = h.room;
      digits = sym (append-nil (take count before));
      written = refl;
      next = λ _ _. refl;
      whole = λ some. absurd (omega (arith, some));
    }

-- if a byte is still to be written, a digit is still to be moved
left-some : {grouping : ℕ × ℕ} {count total left end in_group : ℕ} {before between : List ℕ}
    → 0 < end → IsSpread grouping count total left end in_group before between → 0 < left
left-some {grouping} {left = zero} {in_group = in_group} due w =
    let none : (0 + in_group - 1) / grouping.0 ≡ 0 = div-eq_of_lt (omega (arith, w.few, w.fits.size)) in
    absurd (omega (arith, w.place, none, due))
left-some {left = suc left} due w = omega arith

-- a byte is written before those that are written
written-more : (end byte : ℕ) (between behind : List ℕ)
    → 0 < end → end ≤ length between → drop end between ≡ behind
    → drop (end - 1) (set between (end - 1) byte) ≡ byte ∷ behind
written-more end byte between behind due room written = grind (arith, drop-set)

-- a digit is moved to its index
pub IsSpread-digit : {grouping : ℕ × ℕ} {count total left end in_group : ℕ} {before between : List ℕ}
    → 0 < end → in_group < grouping.0 → IsSpread grouping count total left end in_group before between
    → IsSpread grouping count total (left - 1) (end - 1) (in_group + 1) before
    (set between (end - 1) (get_or between (left - 1) 0))
IsSpread-digit {grouping} {count} {left = left} {end} {in_group} {before} {between} due part w =
    let digit = get_or between (left - 1) 0 in
    let some = left-some due w in
    let same : left - 1 + (in_group + 1) ≡ left + in_group = omega arith in
    let taken : take left between ≡ take (left - 1) between ++ digit ∷ [] = grind (arith, take_more) in
    let unmoved = take-set-le (left - 1) between (end - 1) digit (omega arith) in
    record {
      moved = digit ∷ w.moved;
      behind = digit ∷ w.behind;
      groups = w.groups;
      fits = w.fits;
      many = omega (arith, w.many);
      few = omega arith;
      some = omega arith;
      place = rw same (omega (arith, w.place));
      room = omega (arith, w.room, length-set between (end - 1) digit);
      digits = rw unmoved (w.digits ∙ rw taken (append_assoc (take (left - 1) between) (digit ∷ []) w.moved));
      written = written-more end _ between _ due w.room w.written;
      next = λ d more.
          let inside : length (digit ∷ w.moved) % grouping.0 ≡ in_group + 1 = grind (arith, mod-mul-add) in
          rw (mark_before-part grouping (length (digit ∷ w.moved)) (λ e. omega (arith, inside)))
          (ap (λ xs. d ∷ xs) (w.next digit part));
      whole = λ _. w.next digit part;
    }

-- after a whole group its separator is written
pub IsSpread-mark : {grouping : ℕ × ℕ} {count total left end in_group : ℕ} {before between : List ℕ}
    → 0 < end → in_group ≡ grouping.0 → IsSpread grouping count total left end in_group before between
    → IsSpread grouping count total left (end - 1) 0 before (set between (end - 1) grouping.1)
IsSpread-mark {grouping} {left = left} {end} {in_group} {between = between} due full w =
    let some = left-some due w in
    let fewer : (left + in_group - 1) / grouping.0 ≡ (left + 0 - 1) / grouping.0 + 1 =
    ap (λ n. n / grouping.0) (let e : left + in_group - 1 ≡ left + 0 - 1 + grouping.0 = omega arith in e)
    ∙ add-div_right (left + 0 - 1) w.fits.size in
    let many : length w.moved ≡ (w.groups + 1) * grouping.0 = omega (arith, w.many) in
    let mark = mark_before-whole grouping (length w.moved)
    (ap (λ n. n % grouping.0) many ∙ mul-mod_left (w.groups + 1) grouping.0) in
    record {
      moved = w.moved;
      behind = grouping.1 ∷ w.behind;
      groups = w.groups + 1;
      fits = w.fits;
      many = omega (arith, many);
      few = omega arith;
      some = omega arith;
      place = omega (arith, w.place, fewer);
      room = omega (arith, w.room, length-set between (end - 1) grouping.1);
      digits = rw (take-set-le left between (end - 1) grouping.1 (omega (arith, w.place, fewer))) w.digits;
      written = written-more end _ between _ due w.room w.written;
      next = λ d _. in_groups-more grouping d w.moved (omega (arith, w.many))
          ∙ (λ i. d ∷ mark i ++ w.whole (omega arith) i);
      whole = λ none. absurd (omega (arith, none));
    }

-- every byte is written
pub IsSpread-end : {grouping : ℕ × ℕ} {count total left end in_group : ℕ} {before after : List ℕ}
    → end ≡ 0 → IsSpread grouping count total left end in_group before after
    → Front before after (in_groups grouping (take count before))
IsSpread-end {grouping} {count} {left = left} {in_group = in_group} {before} none w =
    grind (arith, length-in_groups_taken)
