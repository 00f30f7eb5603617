-- The elements that were appended to a list.
use Rattle.std.proofs.Common.{◌≡◌, ℕ, List, [], ◌++◌, length, drop, ap, sym, ◌∙◌, append_assoc, append-nil, arith}
use Rattle.std.proofs.Math.Seq.{drop-append_seam}
use Rattle.lexical_lines.specs.RunOutcome.{added}

-- if a list is another one followed by some elements, these were appended
pub added-is : (before after more : List ℕ) → after ≡ before ++ more → added before after ≡ more
added-is before after more e = ap (drop (length before)) e ∙ drop-append_seam before more

-- appending twice is appending
pub grown : (a b c x y : List ℕ) → b ≡ a ++ x → c ≡ b ++ y → c ≡ a ++ added a c
grown a b c x y e f = grind (arith, append_assoc, added-is)

-- what is appended next comes after what was appended before
pub added-more : (a b c x : List ℕ) → b ≡ a ++ added a b → c ≡ b ++ x → added a c ≡ added a b ++ x
added-more a b c x e f = added-is a c (added a b ++ x) (f ∙ ap (λ front. front ++ x) e ∙ append_assoc a (added a b) x)

-- with other elements at the front, too, what is appended next comes after what was appended before
pub added-after : (front a b c x : List ℕ) → b ≡ a ++ added a b → c ≡ b ++ x
    → front ++ added a c ≡ (front ++ added a b) ++ x
added-after front a b c x e f = ap (λ more. front ++ more) (added-more a b c x e f)
    ∙ sym (append_assoc front (added a b) x)

-- nothing was appended to a list that is unchanged
pub added-none : (a : List ℕ) → added a a ≡ []
added-none a = added-is a a [] (sym (append-nil a))

-- what two calls have added, one after the other
pub added_on : (a b c : List ℕ) → b ≡ a ++ added a b → c ≡ b ++ added b c → (added a b ++ added b c ≡ added a c)
    × (c ≡ a ++ added a c)
added_on a b c e f = (sym (added-more a b c (added b c) e f), grown a b c _ _ e f)
