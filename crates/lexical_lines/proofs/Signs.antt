-- Optional signs before digits.
use Rattle.std.proofs.lemmas.Grind.{common_steps}
use Rattle.std.proofs.Common.{◌≡◌, ℕ, ◌<◌, List, [], ◌∷◌, ◌++◌, length, Bool, true, arith}
use Rattle.std.specs.Io.{StartsWith}
use Rattle.std.specs.List.{All}
use Rattle.lexical_lines.specs.Decimal.{IsDigitByte}
use Rattle.lexical_lines.specs.Split.{optional_sign}

-- a text has one reading as an optional sign and a text that does not begin with the sign
pub stripped_unique : (sign : ℕ) (text s t : List ℕ) (p q : Bool) → text ≡ optional_sign p sign ++ s
    → (StartsWith text (sign ∷ []) → p ≡ true) → text ≡ optional_sign q sign ++ t → (StartsWith t (sign ∷ []) → ⊥)
    → (p ≡ q) × (s ≡ t)
stripped_unique sign text s t p q e stripped f unsigned = grind arith

-- digits do not begin with a sign
pub digits-unsigned : (sign : ℕ) (digits rest : List ℕ) → sign < 48 → 0 < length digits → All IsDigitByte digits
    → StartsWith (digits ++ rest) (sign ∷ []) → ⊥
digits-unsigned sign digits rest small some bytes begins = grind (arith, common_steps)

-- an optional sign before digits is there if the text begins with the sign
pub digits-stripped : (sign : ℕ) (p : Bool) (digits rest : List ℕ) → sign < 48 → 0 < length digits
    → All IsDigitByte digits
    → StartsWith (optional_sign p sign ++ (digits ++ rest)) (sign ∷ []) → p ≡ true
digits-stripped sign p digits rest small some bytes begins = grind (arith, digits-unsigned)
