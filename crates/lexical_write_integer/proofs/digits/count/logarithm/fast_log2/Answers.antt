use Rattle.std.proofs.Common.{◌≡◌, ℕ, zero, suc, ◌+◌, ◌*◌, ◌/◌, ◌^◌, ◌<◌, ◌≤◌, inl, inr, arith}
use native.Mathlib.Numerals.{unary_clauses}
use Rattle.std.proofs.Math.Nat.{pow-zero, pow-suc, pow-le-pow_right}
use Rattle.std.proofs.lemmas.Bool.{cases_lt}
use Rattle.lexical_write_integer.proofs.OfDigits.Count.Logarithms.{IsGreatestPower-between}
use Rattle.lexical_write_integer.proofs.digits.count.logarithm.fast_log2.Goals as goal

-- only the first power of 2 is at most 1
power_in_one : (k : ℕ) → 2 ^ k ≤ 1 → k ≡ 0
power_in_one k low =
    elim (cases_lt 0 k) [
      | inl more ↦ absurd (omega (arith, pow-le-pow_right {n = 2} (omega arith) {i = 1} {j = k} more))
      | inr none ↦ omega arith
    ]

-- nor is a larger one at most a number, without being so if the last bit is set
power_below : (x k : ℕ) → 0 < x → 2 ^ k ≤ x / 2 * 2 + 1 → 2 ^ k ≤ x
power_below x zero some low = omega (arith, pow-zero 2)
power_below x (suc k) some low = omega (arith, pow-suc 2 k)

pub returns-clause-log2 : goal.returns-clause-log2
returns-clause-log2 g c =
    let x = g.T.UnsignedInteger.magnitude c.args.x in
    let log = c.ilog2.ensures in
    let is = c.as_u64.ensures in
    record {
      of_zero = λ none. power_in_one c.ilog2.result (omega (arith, log.power_le, is));
      of_positive = λ some. IsGreatestPower-between 2 x c.ilog2.result (omega arith)
          (power_below x c.ilog2.result some (rw is at log.power_le))
          (simp unary_clauses (omega (arith, log.next_power_gt, is)));
    }

pub returns-clause-within : goal.returns-clause-within
returns-clause-within g c = grind (arith, pow-le-pow_right)
