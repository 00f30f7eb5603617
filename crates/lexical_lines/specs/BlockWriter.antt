-- The state of a `BlockWriter` in contracts, and what its calls keep.
use Rattle.std.specs.Prelude.{◌≡◌, ℕ, List, [], ◌++◌, Option}
use Rattle.std.specs.Io.KnownBytes.{Appends}
use Rattle.std.proofs.Common.{sym, ap, ◌∙◌, append_assoc}
use Rattle.std.proofs.KnownBytes.{Appends-nil, Appends-trans}
use Rattle.std.proofs.lemmas.List.{append-nil}

-- the bytes that its sink contains, if they are known; the bytes that the sink has taken, and those of them that are
-- not flushed; the bytes in the block; and the numbers of flushes that succeeded and of failures of the sink
pub record BlockWriting : Type 0 where
  pub contents : Option (List ℕ)
  pub written : List ℕ
  pub unflushed : List ℕ
  pub held : List ℕ
  pub flushes : ℕ
  pub failures : ℕ

-- the bytes that a writer has taken: its sink has taken them, or they are in the block
abbrev pub taken : BlockWriting → List ℕ
taken w = w.written ++ w.held

-- the sink took these bytes, and contains them
pub record PassesOn (a b : BlockWriting) (more : List ℕ) : Type 0 where
  pub written : b.written ≡ a.written ++ more
  pub contents : Appends a.contents b.contents more

-- the writer took the bytes `more`, and the sink took the bytes `sent`
pub record TakesMore (a b : BlockWriting) : Type 0 where
  pub more : List ℕ
  pub sent : List ℕ
  pub longer : taken b ≡ taken a ++ more
  pub passed : PassesOn a b sent

-- each byte that the writer has taken was written and flushed
pub record IsFlushed (w : BlockWriting) : Type 0 where
  pub empty : w.held ≡ []
  pub flushed : w.unflushed ≡ []

-- ---- proofs that ghost members cite

pub TakesMore-reflexive : (a : BlockWriting) → TakesMore a a
TakesMore-reflexive a = record {
  more = [];
  sent = [];
  longer = sym (append-nil (taken a));
  passed = record { written = sym (append-nil a.written); contents = Appends-nil a.contents };
}

-- appending twice is appending
appended : (a b c x y : List ℕ) → b ≡ a ++ x → c ≡ b ++ y → c ≡ a ++ (x ++ y)
appended a b c x y e f = f ∙ ap (λ front. front ++ y) e ∙ append_assoc a x y

pub TakesMore-transitive : (a b c : BlockWriting) → TakesMore a b → TakesMore b c → TakesMore a c
TakesMore-transitive a b c p q = record {
  more = p.more ++ q.more;
  sent = p.sent ++ q.sent;
  longer = appended _ _ _ p.more q.more p.longer q.longer;
  passed = record {
    written = appended _ _ _ p.sent q.sent p.passed.written q.passed.written;
    contents = Appends-trans _ _ _ p.sent q.sent p.passed.contents q.passed.contents;
  };
}
