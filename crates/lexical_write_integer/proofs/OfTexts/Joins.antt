-- Joined texts, to whose end another text is added.
use Rattle.std.proofs.Common.{◌≡◌, ℕ, ◌<◌, List, [], ◌∷◌, ◌++◌, length, refl, sym, ap, subst, ◌∙◌, arith, append_assoc}
use Rattle.lexical_write_integer.specs.Sequence.{IsExactly, Then, AreJoined}

-- what precedes the text that is added to `count` texts: nothing if it is the first, and otherwise the separator
pub record Leads (separator : List ℕ) (count : ℕ) (lead : List ℕ) : Type 0 where
  pub at_first : count ≡ 0 → lead ≡ []
  pub later : 0 < count → lead ≡ separator

-- joined texts, what precedes a further element, and its text are the joined texts with this element
pub AreJoined-push : {A : Type 0} (IsOf : A → List ℕ → Type 0) (separator lead : List ℕ) (xs : List A) (y : A)
    (s t : List ℕ) →
    Leads separator (length xs) lead → AreJoined IsOf separator xs s → Then (IsExactly lead) (IsOf y) t →
    AreJoined IsOf separator (xs ++ y ∷ []) (s ++ t)
AreJoined-push IsOf separator lead [] y s t leads was is =
    subst (IsOf y) (sym (ap (λ k. k ++ t) was ∙ is.whole
    ∙ ap (λ k. k ++ is.second) (is.is_first ∙ leads.at_first refl))) is.is_second
AreJoined-push IsOf separator lead (x ∷ []) y s t leads was is =
    record {
      first = s;
      second = t;
      is_first = was;
      is_second = subst (λ l. Then (IsExactly l) (IsOf y) t) (leads.later (omega arith)) is;
      whole = refl;
    }
AreJoined-push IsOf separator lead (x ∷ z ∷ xs) y s t leads was is =
    let rest = was.is_second in
    let same : lead ≡ separator = leads.later (omega arith) in
    let leads' : Leads separator (length (z ∷ xs)) lead =
    record { at_first = λ none. absurd (omega (arith, none)); later = λ _. same } in
    let more = AreJoined-push IsOf separator lead (z ∷ xs) y rest.second t leads' rest.is_second is in
    record {
      first = was.first;
      second = was.second ++ t;
      is_first = was.is_first;
      is_second = record {
        first = rest.first;
        second = rest.second ++ t;
        is_first = rest.is_first;
        is_second = more;
        whole = ap (λ k. k ++ t) rest.whole ∙ append_assoc rest.first rest.second t;
      };
      whole = ap (λ k. k ++ t) was.whole ∙ append_assoc was.first was.second t;
    }
