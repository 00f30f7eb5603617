-- The order of texts.
use Rattle.std.specs.Prelude.{◌≡◌, ℕ, ◌<◌, ◌⊎◌, List, length}
use Rattle.std.specs.Cmp.Lexicographic.{slice_cmp}
use Rattle.std.specs.Ordering.{nat_cmp}
use Rattle.std.specs.declared.cmp.Ordering.TheVariants.{Less}

-- the first text is before the second in lexicographic order: the smaller byte decides at the first index at which they
-- differ, and a text is before every longer text that starts with it
abbrev pub IsEarlier : List ℕ → List ℕ → Type 0
IsEarlier s t = slice_cmp nat_cmp s t ≡ Less

-- the first text is shorter than the second, or has the same length and is before it in lexicographic order
abbrev pub ComesBefore : List ℕ → List ℕ → Type 0
ComesBefore s t = (length s < length t) ⊎ ((length s ≡ length t) × IsEarlier s t)
