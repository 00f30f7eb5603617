-- The loops that divide a number by a power of the radix: their invariant, and the quotients that they record.
use Rattle.std.proofs.Common.{◌≡◌, ℕ, zero, suc, ◌+◌, ◌*◌, ◌/◌, ◌^◌, ◌<◌, ◌≤◌, List, [], ◌∷◌, ◌++◌, length, refl, sym}
use Rattle.std.proofs.Common.{ap, ◌∙◌, arith, append_assoc}
use Rattle.std.proofs.Math.Nat.{pow-zero}
use Rattle.std.proofs.lemmas.List.{append-nil}
use Rattle.std.proofs.lemmas.List.FromFn.{map-range_with_len_more, length-map-range_with_len}
use Rattle.std.proofs.lemmas.Nat.{div-mul-add}
use Rattle.lexical_write_integer.specs.DigitCount.{digit_count}
use Rattle.lexical_write_integer.specs.LoopTurns.{IsStep, RemovesDigits, digits_after_first, quotients}
use Rattle.lexical_write_integer.proofs.OfDigits.Count.DigitCounts.{digit_count-pos, digit_count-le, digit_count-left}
use Rattle.lexical_write_integer.proofs.OfDigits.Count.DigitCounts.{digit_count-more}
use Rattle.lexical_write_integer.proofs.OfDigits.Powers.{div-pow_more}
use Rattle.lexical_write_integer.proofs.OfDigits.Count.RadixPowers.{step-pos, power-gt_one}

-- ---- the noted quotients

-- without an iteration there is no quotient
pub quotients-none : (r n step : ℕ) → quotients r n step 0 ≡ []
unfolding quotients
quotients-none r n step = refl

-- one further iteration adds its quotient at the end
pub quotients-more : (r n step count : ℕ) → quotients r n step (count + 1) ≡ quotients r n step count
    ++ n / r ^ (step * (count + 1)) ∷ []
unfolding quotients
quotients-more r n step count = map-range_with_len_more (λ turn. n / r ^ (step * turn)) 1 count (count + 1)
    (omega arith)

-- the first quotient, and then those of the number that remains
pub quotients-first : (r n step count : ℕ) → quotients r n step (count + 1) ≡ n / r ^ step
    ∷ quotients r (n / r ^ step) step count
quotients-first r n step zero =
    let once : step * (0 + 1) ≡ step = omega arith in
    quotients-more r n step 0
    ∙ ap (λ ys. ys ++ n / r ^ (step * (0 + 1)) ∷ []) (quotients-none r n step)
    ∙ ap (λ k. n / r ^ k ∷ []) once
    ∙ ap (λ ys. n / r ^ step ∷ ys) (sym (quotients-none r (n / r ^ step) step))
quotients-first r n step (suc count) =
    let order : step * (count + 1) + step ≡ step * (suc count + 1) = grind arith in
    let turn : suc count ≡ count + 1 = omega arith in
    let last : n / r ^ (step * (suc count + 1)) ≡ n / r ^ step / r ^ (step * (count + 1)) =
    sym (div-pow_more r n (step * (count + 1)) step ∙ ap (λ k. n / r ^ k) order) in
    quotients-more r n step (suc count)
    ∙ ap (λ k. k ++ n / r ^ (step * (suc count + 1)) ∷ [])
    (ap (quotients r n step) turn ∙ quotients-first r n step count)
    ∙ ap (λ k. n / r ^ step ∷ (quotients r (n / r ^ step) step count ++ k ∷ [])) last
    ∙ ap (λ ys. n / r ^ step ∷ ys) (sym (ap (quotients r (n / r ^ step) step) turn
    ∙ quotients-more r (n / r ^ step) step count))

-- there is one quotient for each iteration
pub length-quotients : (r n step count : ℕ) → length (quotients r n step count) ≡ count
unfolding quotients
length-quotients r n step count = length-map-range_with_len (λ turn. n / r ^ (step * turn)) 1 count

-- ---- a loop that removes `step` digits in each iteration

-- `taken` digits were removed from n, so `left` is the quotient; the quotients were appended to `before`, which gives
-- `after`
pub record IsDivided (r n step taken left : ℕ) (before after : List ℕ) : Type 0 where
  pub turns : ℕ
  pub by_turns : taken ≡ step * turns
  pub rest : left ≡ n / r ^ taken
  pub fewer : taken < digit_count r n
  pub notes : after ≡ before ++ quotients r n step turns

-- before the first iteration, no digit is removed and nothing noted
pub IsDivided-start : {r n step : ℕ} {notes : List ℕ} → IsDivided r n step 0 n notes notes
IsDivided-start {r} {n} {notes = notes} = grind (arith, pow-zero, digit_count-pos, quotients-none, append-nil)

-- if there is a further iteration, more than `step` digits remain
pub IsDivided-room : {r n step taken left : ℕ} {before after : List ℕ}
    → 2 ≤ r → IsDivided r n step taken left before after → r ^ step ≤ left → taken + step < digit_count r n
IsDivided-room {r} {n} {step} {taken} {left} two d long =
    omega (arith, digit_count-more r step left two long, digit_count-left r n taken left two d.fewer d.rest)

-- an iteration divides what is left, which is at least the power it divides by, and notes the quotient
pub IsDivided-more : {r n step taken left next : ℕ} {before between after : List ℕ}
    → 2 ≤ r → IsDivided r n step taken left before between → r ^ step ≤ left → next ≡ left / r ^ step
    → after ≡ between ++ next ∷ []
    → IsDivided r n step (taken + step) next before after
IsDivided-more {r} {n} {step} {taken} {next = next} {before} two d long e noted =
    let turn : taken + step ≡ step * (d.turns + 1) = grind (arith, d.by_turns) in
    grind (arith, div-pow_more, IsDivided-room, quotients-more, append_assoc)

-- the loop ends when the number that is left has at most `step` digits
pub RemovesDigits-end : {r n step taken left : ℕ} {before after : List ℕ}
    → 2 ≤ r → IsStep step → IsDivided r n step taken left before after → left < r ^ step
    → RemovesDigits r n step taken left before after
RemovesDigits-end {r} {n} {step} {taken} {left} two stepped d short =
    let few = digit_count-le r left step (step-pos step stepped) short in
    let counts = digit_count-left r n taken left two d.fewer d.rest in
    let turns : digits_after_first r n / step ≡ d.turns = grind (arith, div-mul-add) in
    record { count = rw turns d.by_turns; rest = d.rest; notes = rw turns d.notes }

-- a loop that is not entered
pub RemovesDigits-none : {r n step : ℕ} {notes : List ℕ} → 2 ≤ r → IsStep step → n < r ^ step
    → RemovesDigits r n step 0 n notes notes
RemovesDigits-none two stepped short = RemovesDigits-end two stepped IsDivided-start short

-- each quotient is smaller than the one before
pub left-smaller : {r step left next : ℕ} → 2 ≤ r → IsStep step → r ^ step ≤ left → next ≡ left / r ^ step → next < left
left-smaller {r} {step} {left} two stepped long e = grind (arith, power-gt_one)

-- ---- after the loop

-- the digits that are left and those that were removed are as many as the number has
pub RemovesDigits-counts : {r n step taken left : ℕ} {before after : List ℕ}
    → 2 ≤ r → RemovesDigits r n step taken left before after → digit_count r left + taken ≡ digit_count r n
RemovesDigits-counts {r} {n} {step} {taken} {left} two t = grind (arith, digit_count-left, digit_count-pos)
