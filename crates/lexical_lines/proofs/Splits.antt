-- Texts that are cut at their first separator.
use Rattle.std.proofs.Common.{◌≡◌, ◌≢◌, ℕ, List, [], ◌∷◌, ◌++◌, refl}
use Rattle.std.proofs.lemmas.List.Elements.{All-head, All-tail}
use Rattle.lexical_lines.specs.Split.{Lacks}

-- a text that contains the separator does not lack it
pub Lacks-not : (separator : ℕ) (a b : List ℕ) → Lacks separator (a ++ separator ∷ b) → ⊥
Lacks-not separator [] b h = All-head (λ byte. byte ≢ separator) separator b h refl
Lacks-not separator (x ∷ a) b h = Lacks-not separator a b (All-tail (λ byte. byte ≢ separator) x (a ++ separator ∷ b) h)

-- a text is cut at its first separator in one way
pub cut_unique : (separator : ℕ) (a b c d : List ℕ) → Lacks separator a → Lacks separator c
    → a ++ separator ∷ b ≡ c ++ separator ∷ d → (a ≡ c) × (b ≡ d)
cut_unique separator [] b [] d p q e = (refl, cc)
cut_unique separator [] b (y ∷ c) d p q e = absurd (All-head (λ byte. byte ≢ separator) y c q (cc))
cut_unique separator (x ∷ a) b [] d p q e = absurd (All-head (λ byte. byte ≢ separator) x a p (cc))
cut_unique separator (x ∷ a) b (y ∷ c) d p q e =
    let both = cut_unique separator a b c d (All-tail (λ byte. byte ≢ separator) x a p)
    (All-tail (λ byte. byte ≢ separator) y c q) (cc) in
    (cc (both.0), both.1)
