-- What calls of `put` do to a sink that can be flushed.
use Rattle.std.specs.Prelude.{◌≡◌, ℕ, List, [], ◌++◌, Option, refl}
use Rattle.std.specs.Io.KnownBytes.{Appends}
use Rattle.std.proofs.Common.{sym, ap, ◌∙◌, append_assoc}
use Rattle.std.proofs.KnownBytes.{Appends-nil, Appends-trans}
use Rattle.std.proofs.lemmas.List.{append-nil}

-- the sink took some bytes and contains them, they are not flushed, and no flush was called
pub record PutsOnly {K : Type 0} (taken_bytes unflushed_bytes : K → List ℕ) (known : K → Option (List ℕ))
    (counted : K → ℕ) (a b : K) : Type 0 where
  pub more : List ℕ
  pub taken : taken_bytes b ≡ taken_bytes a ++ more
  pub unflushed : unflushed_bytes b ≡ unflushed_bytes a ++ more
  pub contents : Appends (known a) (known b) more
  pub flushes : counted b ≡ counted a

module _ {K : Type 0} {taken_bytes unflushed_bytes : K → List ℕ} {known : K → Option (List ℕ)} {counted : K → ℕ} where
  pub PutsOnly-reflexive : (a : K) → PutsOnly taken_bytes unflushed_bytes known counted a a
  PutsOnly-reflexive a = record {
    more = [];
    taken = sym (append-nil _);
    unflushed = sym (append-nil _);
    contents = Appends-nil (known a);
    flushes = refl;
  }

  pub PutsOnly-transitive : (a b c : K) → PutsOnly taken_bytes unflushed_bytes known counted a b
      → PutsOnly taken_bytes unflushed_bytes known counted b c
      → PutsOnly taken_bytes unflushed_bytes known counted a c
  PutsOnly-transitive a b c p q = record {
    more = p.more ++ q.more;
    taken = q.taken ∙ ap (λ front. front ++ q.more) p.taken ∙ append_assoc _ p.more q.more;
    unflushed = q.unflushed ∙ ap (λ front. front ++ q.more) p.unflushed ∙ append_assoc _ p.more q.more;
    contents = Appends-trans (known a) (known b) (known c) p.more q.more p.contents q.contents;
    flushes = q.flushes ∙ p.flushes;
  }
