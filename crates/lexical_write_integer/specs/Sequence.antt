-- Texts in a row.
use Rattle.std.specs.Prelude.{◌≡◌, ℕ, List, [], ◌∷◌, ◌++◌}

-- these bytes, and no others
abbrev pub IsExactly : List ℕ → List ℕ → Type 0
IsExactly bytes text = text ≡ bytes

-- a text of the first kind, followed by one of the second
pub record Then (IsFirst IsSecond : List ℕ → Type 0) (text : List ℕ) : Type 0 where
  pub first : List ℕ
  pub second : List ℕ
  pub is_first : IsFirst first
  pub is_second : IsSecond second
  pub whole : text ≡ first ++ second

-- a text for each element, in order, with the separator between adjacent texts
abbrev pub AreJoined : {A : Type 0} → (A → List ℕ → Type 0) → List ℕ → List A → List ℕ → Type 0
AreJoined IsOf separator [] = IsExactly []
AreJoined IsOf separator (x ∷ []) = IsOf x
AreJoined IsOf separator (x ∷ y ∷ xs) = Then (IsOf x) (Then (IsExactly separator) (AreJoined IsOf separator (y ∷ xs)))
