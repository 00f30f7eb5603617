-- The length of the texts of a kind.
use Rattle.std.specs.Prelude.{◌≡◌, ℕ, ◌<◌, List, length}

-- every text of this kind has this length
pub record HasLength (Is : List ℕ → Type 0) (count : ℕ) : Type 0 where
  pub each : (text : List ℕ) → Is text → length text ≡ count

-- a text of this kind that has this length
pub record IsOfLength (Is : List ℕ → Type 0) (count : ℕ) (text : List ℕ) : Type 0 where
  pub is : Is text
  pub counted : length text ≡ count

-- a text of this kind is longer
pub record HasLonger (Is : List ℕ → Type 0) (count : ℕ) : Type 0 where
  pub text : List ℕ
  pub is : Is text
  pub longer : count < length text

-- every text of this kind is these bytes
pub record IsOnly (Is : List ℕ → Type 0) (bytes : List ℕ) : Type 0 where
  pub only : (text : List ℕ) → Is text → text ≡ bytes
