-- The digits of a number of units, and its whole part in groups.
use Rattle.std.proofs.Common.{◌≡◌, Option, ℕ, ◌+◌, ◌-◌, ◌/◌, ◌%◌, ◌^◌, ◌≤◌, pos, refl, sym, ap, ◌∙◌, arith}
use Rattle.std.proofs.Common.{List, [], ◌∷◌, ◌++◌, length, length-append, take, drop, replicate}
use borrow.Rule.Slice.PartMut.{put_mid}
use Rattle.std.specs.Prelude.{Bool, true, if◌then◌else◌, max, min}
use Rattle.std.proofs.Math.Nat.{pow-le-pow_right}
use Rattle.std.proofs.lemmas.List.{append-nil, append_assoc, drop_at, length-drop, length-replicate, length-take-le}
use Rattle.std.proofs.lemmas.List.{take_all, take_at}
use Rattle.std.proofs.lemmas.Grind.{replicate_next}
use Rattle.lexical_num.specs.BitWidth.{IsBitWidth}
use Rattle.lexical_num.specs.DecimalWidth.{IsDecimalWidth}
use Rattle.lexical_num.specs.Format.{grouped_length, standard}
use Rattle.lexical_num.specs.Range.{greatest_of, least_of}
use Rattle.lexical_num.proofs.Magnitudes.{decimal_width-le_20}
use Rattle.lexical_write_integer.specs.Buffer.{Front, Writes}
use Rattle.lexical_write_integer.specs.Groups.{grouped}
use Rattle.lexical_write_integer.proofs.OfDigits.Count.DigitCounts.{width-le, width-le_64}
use Rattle.lexical_write_integer.proofs.OfTexts.SizeBounds.{grouped_length-le, grouped_length-more}
use Rattle.lexical_write_integer.specs.Text.{IsDigits, IsText}
use Rattle.lexical_parts.specs.Fixed.{AreUnits, IsGroupedUnits, grouped_units_room}
use Rattle.lexical_write_integer.proofs.Buffers.Prefixes.{take-Writes}
use Rattle.lexical_parts.proofs.OfLayout.Inserts.{Front-inserted, Front-over}
use Rattle.lexical_parts.proofs.OfTexts.Conversions.{written_as}
use Rattle.lexical_parts.proofs.OfNumbers.Points.{IsFraction-point, digits_around_point}
use Rattle.lexical_write_integer.specs.Padded.{IsPadded}

-- the digits of a number of units, after the zeros that a digit before the point requires
pub AreUnits-digits : (decimals added width : ℕ) {number : ℕ} {text : List ℕ} → IsDigits 10 number text
    → length text ≤ width
    → added ≡ (decimals + 1) - length text → AreUnits decimals number width (replicate added 48 ++ text)
AreUnits-digits decimals added width {number} {text} is few is_zeros =
    let digits : List ℕ = replicate added 48 ++ text in
    let long : length digits ≡ added + length text =
    omega (arith, length-append (replicate added 48) text, length-replicate {A = ℕ} added 48) in
    let around = digits_around_point number decimals added (length text) (length digits - decimals)
    text is refl is_zeros (omega arith) in
    record { more = omega arith; few = omega arith; whole = around.0; rest = around.1 }

-- the buffer has the digits of a number of units, once the zeros are inserted before the digits of the number
pub written_after_zeros : {number count : ℕ} {before between after : List ℕ} (decimals added width : ℕ)
    → Writes (IsDigits 10 number) before between count
    → count ≤ width → added ≡ (decimals + 1) - count → Front between after (replicate added 48 ++ take count between)
    → Writes (AreUnits decimals number width) before after (added + count)
written_after_zeros {number} {count} {before} {between} decimals added width w few is_zeros inserted =
    let same : take count between ≡ w.text = take-Writes before between count w in
    let text : List ℕ = replicate added 48 ++ w.text in
    let long : length text ≡ added + count =
    omega (arith, length-append (replicate added 48) w.text, length-replicate {A = ℕ} added 48, w.count) in
    record {
      text = text;
      is = AreUnits-digits decimals added width w.is (omega (arith, w.count)) (omega (arith, w.count));
      front = Front-over w.front (rw same at inserted) (omega (arith, long, w.count));
      count = sym long;
    }

-- ---- the room

-- the room is enough for the whole part in groups, the point and the decimals
pub grouped_units-le : {decimals units width count : ℕ} {before between : List ℕ} (grouping : Option (ℕ × ℕ))
    → Writes (AreUnits decimals units width) before between count
    → grouped_length grouping (count - decimals) + (decimals + min decimals 1)
    ≤ grouped_units_room grouping width decimals
grouped_units-le {decimals} {width = width} {count} grouping w =
    let within : count - decimals + 0 ≤ max width (decimals + 1) - decimals = omega (arith, w.is.few, w.count) in
    omega (arith, grouped_length-more grouping (count - decimals) (max width (decimals + 1) - decimals) 0 within)

-- a signed type has at most 19 decimal digits
width-le_19 : {bits width : ℕ} → IsBitWidth bits
    → IsDecimalWidth (least_of bits true) (greatest_of bits true) width → width ≤ 19
width-le_19 {bits} {width} of_type is =
    let largest = pow-le-pow_right {n = 2} (omega arith) {i = bits - 1} {j = 63}
    (omega (arith, width-le_64 bits of_type)) in
    width-le width 19 _ is.needed (omega (arith, largest))

-- the longest text is that of a `u64` without decimals in groups of one digit
pub grouped_fixed_room-le_39 : {bits width : ℕ} (is_signed : Bool) (grouping : Option (ℕ × ℕ)) (decimals : ℕ)
    → IsBitWidth bits
    → IsDecimalWidth (least_of bits is_signed) (greatest_of bits is_signed) width → decimals ≤ 19
    → (if is_signed then 1 else 0) + grouped_units_room grouping width decimals ≤ 39
grouped_fixed_room-le_39 {width = width} is_signed grouping decimals of_type is few =
    let whole = max width (decimals + 1) - decimals in
    let most = decimal_width-le_20 is_signed of_type is in
    grind (arith, most, width-le_19, grouped_length-le grouping whole whole (omega arith) (omega arith))

-- ---- the text in the buffer

-- digits are put into groups where they were written
pub written_in_groups : {grouping : Option (ℕ × ℕ)} {number whole count : ℕ} {digits before between after : List ℕ}
    → IsDigits 10 number digits
    → length digits ≡ whole → Front before between digits → Front between after (grouped grouping (take whole between))
    → count ≡ length (grouped grouping (take whole between)) → count ≡ grouped_length grouping whole
    → Writes (IsText (pos number) (record standard { digit_grouping = grouping })) before after count
written_in_groups {grouping} {number} {whole} {digits = digits} {before} {between} is long written moved counted total =
    let same : take whole between ≡ digits = ap (take whole) written.written
    ∙ take_at digits (drop (length digits) before) whole long in
    record {
      text = grouped grouping (take whole between);
      is = record { digits = digits; magnitude = is; whole = ap (grouped grouping) same };
      front = Front-over written moved
          (omega (arith, long, counted, total, grouped_length-more grouping 0 whole whole (omega arith)));
      count = counted;
    }

-- groups replace a text and all but the last of the points after it
grouped_over_points : {before between after : List ℕ} (W D G : List ℕ) (points : ℕ) → 1 ≤ points
    → length G + 1 ≡ length W + points
    → Front before between (W ++ (replicate points 46 ++ D)) → Front between after G
    → Front before after (G ++ (46 ∷ D))
grouped_over_points {before} {between} {after} W D G points some counted inserted moved =
    let first : List ℕ = replicate (points - 1) 46 in
    let rest : List ℕ = drop (length (W ++ (replicate points 46 ++ D))) before in
    let next : points - 1 + 1 ≡ points = omega arith in
    let all : replicate points 46 ≡ first ++ 46 ∷ [] = rw next at (replicate_next {X = ℕ} (points - 1) 46) in
    let split : between ≡ (W ++ first) ++ (46 ∷ (D ++ rest)) = grind (arith, append_assoc) in
    let long : length (W ++ first) ≡ length G =
    omega (arith, length-append W first, length-replicate {A = ℕ} (points - 1) 46) in
    let left : drop (length G) between ≡ 46 ∷ (D ++ rest) =
    ap (drop (length G)) split ∙ drop_at (W ++ first) _ (length G) long in
    let after_W : length (replicate points 46 ++ D) ≡ points + length D =
    omega (arith, length-append (replicate {A = ℕ} points 46) D, length-replicate {A = ℕ} points 46) in
    let total : length (W ++ (replicate points 46 ++ D)) ≡ length (G ++ (46 ∷ D)) =
    omega (arith, after_W, length-append W (replicate points 46 ++ D), length-append G (46 ∷ D)) in
    record {
      fits = omega (arith, inserted.fits, total);
      written = moved.written ∙ ap (λ xs. G ++ xs) left ∙ ap (λ k. G ++ (46 ∷ (D ++ drop k before))) total
          ∙ sym (append_assoc G (46 ∷ D) _);
    }

-- the whole part in groups, a point and the decimals, if points are inserted before the decimals
pub written_with_point : {grouping : Option (ℕ × ℕ)} {decimals units width count whole points total : ℕ}
    {before between part after : List ℕ} (room : ℕ)
    → Writes (AreUnits decimals units width) before between count → whole ≡ count - decimals → 1 ≤ decimals
    → points ≡ grouped_length grouping whole + 1 - whole → decimals ≤ length (take room (drop whole between))
    → Front (take room (drop whole between)) part
    (replicate points 46 ++ take decimals (take room (drop whole between)))
    → Front (put_mid whole room between part) after (grouped grouping (take whole (put_mid whole room between part)))
    → total ≡ length (grouped grouping (take whole (put_mid whole room between part)))
    → total ≡ grouped_length grouping whole
    → Writes (IsGroupedUnits grouping decimals units) before after (total + 1 + decimals)
written_with_point {grouping} {decimals} {units} {whole = whole} {points} {total} {between = between} {part}
    room w is_whole some is_points room_for inserted moved counted is_total =
    let are = w.is in
    let W : List ℕ = take whole w.text in
    let D : List ℕ = drop whole w.text in
    let split : whole + decimals ≡ length w.text = omega (arith, are.more, w.count, is_whole) in
    let around = Front-inserted (replicate points 46) whole room w.front split inserted room_for in
    let long : length W ≡ whole = length-take-le whole w.text (omega (arith, split)) in
    let left : length D ≡ decimals = omega (arith, length-drop whole w.text, split) in
    let same : take whole (put_mid whole room between part) ≡ W =
    ap (take whole) (around.written ∙ append_assoc W _ _) ∙ take_at W _ whole long in
    let G : List ℕ = grouped grouping W in
    let G_long : total ≡ length G = rw same at counted in
    let at_least : whole ≤ grouped_length grouping whole =
    omega (arith, grouped_length-more grouping 0 whole whole (omega arith)) in
    let some_points : 1 ≤ points = omega (arith, is_points, at_least) in
    let replaced : length G + 1 ≡ length W + points = omega (arith, is_points, is_total, at_least, long, G_long) in
    let number : length w.text - decimals ≡ whole = omega (arith, split) in
    let rest : IsPadded 10 decimals (units % 10 ^ decimals) D = rw number at are.rest in
    record {
      text = G ++ (46 ∷ D);
      is = record {
        first = G;
        second = 46 ∷ D;
        is_first = record { digits = W; magnitude = rw number at are.whole; whole = refl };
        is_second = IsFraction-point decimals _ D some rest _
            (record { first = 46 ∷ []; second = D; is_first = refl; is_second = refl; whole = refl });
        whole = refl;
      };
      front = grouped_over_points W D G points some_points replaced around (rw same at moved);
      count = omega (arith, length-append G (46 ∷ D), G_long, left);
    }

-- without decimals, the text of the whole part is the text of the units
IsGroupedUnits-whole : {grouping : Option (ℕ × ℕ)} (decimals units : ℕ) → decimals ≡ 0
    → (text : List ℕ) → IsText (pos (units / 10 ^ decimals)) (record standard { digit_grouping = grouping }) text
    → IsGroupedUnits grouping decimals units text
IsGroupedUnits-whole decimals units none text is =
    rw none (record {
      first = text;
      second = [];
      is_first = rw none at is;
      is_second = refl;
      whole = sym (append-nil text);
    })

-- without decimals, the digits in groups, where they were written, are the whole text
pub written_without_point : {grouping : Option (ℕ × ℕ)} {decimals units width count total : ℕ}
    {before between after : List ℕ} → decimals ≡ 0
    → Writes (AreUnits decimals units width) before between count
    → Front between after (grouped grouping (take (count - decimals) between))
    → total ≡ length (grouped grouping (take (count - decimals) between))
    → total ≡ grouped_length grouping (count - decimals)
    → Writes (IsGroupedUnits grouping decimals units) before after total
written_without_point {decimals} {units} {count = count} none w moved counted total =
    let digits : IsDigits 10 (units / 10 ^ decimals) w.text =
    rw (take_all (length w.text - decimals) w.text (omega (arith, none))) at w.is.whole in
    written_as (IsGroupedUnits-whole decimals units none)
    (written_in_groups digits (omega (arith, w.count, none)) w.front moved counted total)
