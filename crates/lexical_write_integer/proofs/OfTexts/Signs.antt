-- The sign of a number, from a test whether the number is below 0.
use Rattle.std.proofs.lemmas.Grind.{common_steps}
use Rattle.std.proofs.Common.{Bool, true, false, IsTrue, ◌≡◌, ◌≤◌, ◌↔◌, ℕ, List, [], ◌∷◌, length, take, set, refl}
use Rattle.std.proofs.Common.{arith, ℤ, pos, ◌<ℤ◌}
use Rattle.std.specs.Prelude.{if◌then◌else◌}
use Rattle.lexical_num.specs.Sign.{sign_of}
use mir.Val.{bool_byte}

-- the sign of a number below 0 is `-`
pub sign_of-below : {negative : Bool} (x : ℤ) (required : Bool) → (IsTrue negative ↔ x <ℤ pos 0) → negative ≡ true
    → sign_of x required ≡ 45 ∷ []
sign_of-below x required test is = grind arith

-- otherwise it is `+` if a sign is required, and nothing if not
pub sign_of-other : {negative : Bool} (x : ℤ) (required : Bool) → (IsTrue negative ↔ x <ℤ pos 0) → negative ≡ false
    → sign_of x required ≡ (if required then 43 ∷ [] else [])
sign_of-other x required test other = grind arith

-- ---- the sign in the first byte

-- a `-` that is stored there is a sign of one byte
pub take-minus : (bytes : List ℕ) → 1 ≤ length bytes → take 1 (set bytes 0 45) ≡ 45 ∷ []
take-minus [] some = absurd (omega arith)
take-minus (_ ∷ _) some = refl

-- a `+` that is stored there is the sign if one is required, and otherwise the sign is empty
pub take-plus : (bytes : List ℕ) (required : Bool) → 1 ≤ length bytes
    → take (bool_byte required) (set bytes 0 43) ≡ (if required then 43 ∷ [] else [])
take-plus bytes required some = grind (arith, common_steps)

-- the sign has one byte if it is required, and otherwise none
pub length-plus : (required : Bool) → length {A = ℕ} (if required then 43 ∷ [] else []) ≡ bool_byte required
length-plus required = grind arith
