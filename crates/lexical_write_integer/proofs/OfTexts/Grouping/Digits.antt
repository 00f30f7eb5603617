-- Digits in groups: how long they are, and the last group after the others.
use Rattle.std.proofs.Common.{◌∷◌, ◌++◌, length, take, inl, inr, ◌*◌, refl, sym, ap, ◌∙◌, length-append, ◌≡◌, Option}
use Rattle.std.proofs.Common.{None, Some, ℕ, suc, ◌+◌, ◌-◌, ◌/◌, ◌%◌}
use Rattle.std.proofs.Common.{◌<◌, ◌≤◌, List, [], arith}
use Rattle.std.proofs.Math.Nat.{mod-eq_of_lt, mod-lt, div-eq_of_lt}
use Rattle.std.proofs.lemmas.Nat.{div-mul-add}
use Rattle.std.proofs.lemmas.Bool.{cases_eq, cases_lt, cases_order, eq-eqb, ne_eqb, cond-true, cond-false}
use Rattle.std.proofs.lemmas.List.{append_cancel_left, length-take-le}
use Rattle.lexical_write_integer.specs.Groups.{mark_before, in_groups, grouped}

-- the separator is before digits that make whole groups
pub mark_before-whole : (grouping : ℕ × ℕ) (right : ℕ) → right % grouping.0 ≡ 0
    → mark_before grouping right ≡ grouping.1 ∷ []
mark_before-whole grouping right whole = cond-true _ _ _ (eq-eqb (right % grouping.0) 0 whole)

-- no separator is before digits that do not make whole groups
pub mark_before-part : (grouping : ℕ × ℕ) (right : ℕ) → (right % grouping.0 ≡ 0 → ⊥) → mark_before grouping right ≡ []
mark_before-part grouping right part = cond-false _ _ _ (ne_eqb (right % grouping.0) 0 part)

-- a digit before others in groups, with what is between them
pub in_groups-more : (grouping : ℕ × ℕ) (digit : ℕ) (digits : List ℕ)
    → 0 < length digits → in_groups grouping (digit ∷ digits) ≡ digit ∷ mark_before grouping (length digits)
    ++ in_groups grouping digits
in_groups-more grouping digit digits some = grind arith

-- a single group has no separator
pub in_groups-one : (grouping : ℕ × ℕ) (digits : List ℕ) → length digits ≤ grouping.0
    → in_groups grouping digits ≡ digits
in_groups-one grouping [] few = refl
in_groups-one grouping (digit ∷ []) few = refl
in_groups-one grouping (digit ∷ next ∷ digits) few =
    let right : length (next ∷ digits) % grouping.0 ≡ length (next ∷ digits) = mod-eq_of_lt (omega arith) in
    let part = mark_before-part grouping (length (next ∷ digits)) (λ e. omega arith) in
    rw part (ap (λ rest. digit ∷ rest) (in_groups-one grouping (next ∷ digits) (omega arith)))

-- if a product is not 0, its first factor is not 0
pub factor-pos : (m n product : ℕ) → m * n ≡ product → 0 < product → 0 < m
factor-pos m n product is some = grind arith

-- the separator before a byte is counted as one further group to its right
pub length-mark_before : (grouping : ℕ × ℕ) (right : ℕ)
    → 0 < grouping.0 → 0 < right → length (mark_before grouping right) + (right - 1) / grouping.0 ≡ right / grouping.0
length-mark_before grouping right some any =
    let size = grouping.0 in
    let groups = right / size in
    elim (cases_eq (right % size) 0) [
      | inl whole ↦
          let more : groups * size ≡ (groups - 1 + 1) * size = grind (arith, factor-pos) in
          let before : right - 1 ≡ (groups - 1) * size + (size - 1) = omega arith in
          let fewer : (right - 1) / size ≡ groups - 1 =
          ap (λ n. n / size) before ∙ div-mul-add (groups - 1) size (size - 1) (omega arith) in
          omega (
            arith,
            fewer,
            factor-pos groups size right (omega arith) any,
            ap length (mark_before-whole grouping right whole),
          )
      | inr part ↦
          let before : right - 1 ≡ groups * size + (right % size - 1) = omega arith in
          let same : (right - 1) / size ≡ groups = ap (λ n. n / size) before
          ∙ div-mul-add groups size (right % size - 1) (omega (arith, mod-lt right some)) in
          omega (arith, same, ap length (mark_before-part grouping right part))
    ]

-- each group except the first has a separator before it
pub length-in_groups : (grouping : ℕ × ℕ) (digits : List ℕ)
    → 0 < grouping.0 → length (in_groups grouping digits) ≡ length digits + (length digits - 1) / grouping.0
length-in_groups grouping [] some = let none : (0 - 1) / grouping.0 ≡ 0 = div-eq_of_lt (omega arith) in omega arith
length-in_groups grouping (digit ∷ []) some = let none : (1 - 1) / grouping.0 ≡ 0 =
    div-eq_of_lt (omega arith) in omega arith
length-in_groups grouping (digit ∷ next ∷ digits) some =
    let right = length (next ∷ digits) in
    let mark = length-mark_before grouping right some (omega arith) in
    let rest = length-in_groups grouping (next ∷ digits) some in
    let quotient : (suc right - 1) / grouping.0 ≡ right / grouping.0 =
    ap (λ n. n / grouping.0) (let e : suc right - 1 ≡ right = omega arith in e) in
    omega (arith, mark, rest, quotient, length-append (mark_before grouping right) (in_groups grouping (next ∷ digits)))

-- the first `count` bytes of a buffer, at least one, take `total` bytes in groups, and have room for them
pub record HasRoomInGroups (grouping : ℕ × ℕ) (count total : ℕ) (before : List ℕ) : Type 0 where
  pub size : 0 < grouping.0
  pub some : 0 < count
  pub total_count : total ≡ count + (count - 1) / grouping.0
  pub room : total ≤ length before

-- the digits of a buffer with room for their groups are, in groups, exactly as long as that room
pub length-in_groups_taken : {grouping : ℕ × ℕ} {count total : ℕ} {before : List ℕ}
    → HasRoomInGroups grouping count total before → length (in_groups grouping (take count before)) ≡ total
length-in_groups_taken {grouping} {count} {total} {before} h = grind (arith, length-in_groups, length-take-le)

-- ---- digits and their groups

-- one further digit takes more bytes
length-in_groups_more : (grouping : ℕ × ℕ) (digit : ℕ) (digits : List ℕ)
    → length (in_groups grouping digits) < length (in_groups grouping (digit ∷ digits))
length-in_groups_more grouping digit digits = grind arith

-- equally many digits take equally many bytes in the same groups
length-in_groups_same : (grouping : ℕ × ℕ) (xs ys : List ℕ) → length xs ≡ length ys
    → length (in_groups grouping xs) ≡ length (in_groups grouping ys)
length-in_groups_same grouping [] [] same = refl
length-in_groups_same grouping [] (y ∷ ys) same = absurd (omega arith)
length-in_groups_same grouping (x ∷ xs) [] same = absurd (omega arith)
length-in_groups_same grouping (x ∷ []) (y ∷ []) same = refl
length-in_groups_same grouping (x ∷ []) (y ∷ next ∷ ys) same = absurd (omega arith)
length-in_groups_same grouping (x ∷ next ∷ xs) (y ∷ []) same = absurd (omega arith)
length-in_groups_same grouping (x ∷ next ∷ xs) (y ∷ other ∷ ys) same =
    let right : length (next ∷ xs) ≡ length (other ∷ ys) = omega arith in
    let rest = length-in_groups_same grouping (next ∷ xs) (other ∷ ys) right in
    omega (
      arith,
      ap (λ n. length (mark_before grouping n)) right,
      length-append (mark_before grouping (length (next ∷ xs))) (in_groups grouping (next ∷ xs)),
      length-append (mark_before grouping (length (other ∷ ys))) (in_groups grouping (other ∷ ys)),
    )

-- fewer digits take fewer bytes in the same groups
length-in_groups-lt : (grouping : ℕ × ℕ) (xs ys : List ℕ) → length xs < length ys
    → length (in_groups grouping xs) < length (in_groups grouping ys)
length-in_groups-lt grouping xs [] less = absurd (omega arith)
length-in_groups-lt grouping xs (y ∷ ys) less =
    elim (cases_lt (length xs) (length ys)) [
      | inl fewer ↦ omega (arith, length-in_groups-lt grouping xs ys fewer, length-in_groups_more grouping y ys)
      | inr more ↦ omega (
        arith,
        length-in_groups_same grouping xs ys (omega arith),
        length-in_groups_more grouping y ys,
      )
    ]

-- more digits take more bytes in the groups of a format
pub length-grouped-lt : (grouping : Option (ℕ × ℕ)) (xs ys : List ℕ) → length xs < length ys
    → length (grouped grouping xs) < length (grouped grouping ys)
length-grouped-lt grouping xs ys less = grind (arith, length-in_groups-lt)

-- equally many digits take equally many bytes in the groups of a format
pub length-grouped_same : (grouping : Option (ℕ × ℕ)) (xs ys : List ℕ) → length xs ≡ length ys
    → length (grouped grouping xs) ≡ length (grouped grouping ys)
length-grouped_same grouping xs ys same = grind (arith, length-in_groups_same)

-- digits in groups take at least as many bytes as the digits
pub length-grouped_ge : (grouping : Option (ℕ × ℕ)) (digits : List ℕ) → length digits ≤ length (grouped grouping digits)
length-grouped_ge None digits = omega arith
length-grouped_ge (Some grouping) [] = omega arith
length-grouped_ge (Some grouping) (digit ∷ digits) =
    omega (arith, length-grouped_ge (Some grouping) digits, length-in_groups_more grouping digit digits)

-- two lists of equally many digits are equal if they are equal in the same groups
in_groups-injective : (grouping : ℕ × ℕ) (xs ys : List ℕ) → length xs ≡ length ys
    → in_groups grouping xs ≡ in_groups grouping ys → xs ≡ ys
in_groups-injective grouping [] [] long same = refl
in_groups-injective grouping [] (y ∷ ys) long same = absurd (omega arith)
in_groups-injective grouping (x ∷ xs) [] long same = absurd (omega arith)
in_groups-injective grouping (x ∷ []) (y ∷ []) long same = same
in_groups-injective grouping (x ∷ []) (y ∷ other ∷ ys) long same = absurd (omega arith)
in_groups-injective grouping (x ∷ next ∷ xs) (y ∷ []) long same = absurd (omega arith)
in_groups-injective grouping (x ∷ next ∷ xs) (y ∷ other ∷ ys) long same =
    let right : length (next ∷ xs) ≡ length (other ∷ ys) = omega arith in
    let first : x ≡ y = cc in
    let following : mark_before grouping (length (next ∷ xs)) ++ in_groups grouping (next ∷ xs)
    ≡ mark_before grouping (length (other ∷ ys)) ++ in_groups grouping (other ∷ ys) = cc in
    let rest =
    append_cancel_left (mark_before grouping (length (next ∷ xs))) _ _
    (following ∙ ap (λ n. mark_before grouping n ++ in_groups grouping (other ∷ ys)) (sym right)) in
    let digits : next ∷ xs ≡ other ∷ ys = in_groups-injective grouping (next ∷ xs) (other ∷ ys) right rest in
    cc

-- different digits are different in groups
pub grouped-injective : (grouping : Option (ℕ × ℕ)) (xs ys : List ℕ)
    → grouped grouping xs ≡ grouped grouping ys → xs ≡ ys
grouped-injective None xs ys same = same
grouped-injective (Some grouping) xs ys same =
    elim (cases_order (length xs) (length ys)) [
      | inl long ↦ in_groups-injective grouping xs ys long same
      | inr other ↦ elim other [
        | inl shorter ↦ absurd (omega (arith, length-in_groups-lt grouping xs ys shorter, ap length same))
        | inr longer ↦ absurd (omega (arith, length-in_groups-lt grouping ys xs longer, ap length same))
      ]
    ]
