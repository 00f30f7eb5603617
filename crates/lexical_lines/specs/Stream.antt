-- The states of `Reading` and `Writing` in contracts.
use Rattle.std.specs.Prelude.{◌≡◌, ◌⊎◌, ℕ, ◌+◌, Bool, true, false, List, [], length, take, Option, Some, None, IsSome}
use Rattle.std.specs.Option.{option_map}
use Rattle.std.specs.Io.{StartsWith}
use Rattle.std.specs.Io.KnownBytes.{Consumes, IsAtEnd}
use Rattle.std.proofs.Common.{◌∙◌, refl, sym, subst}
use Rattle.std.proofs.KnownBytes.{Consumes-nil, Consumes-more}
use Rattle.std.proofs.Math.Seq.{take-length, drop-length}
use Rattle.std.proofs.Transfers.{starts_with_trans}
use Rattle.lexical_lines.specs.Puts.{PutsOnly}
use Rattle.lexical_lines.specs.RunOutcome.{added}

-- a source that reads from a reader: the reader, the number of bytes that it may still yield, whether it has reported
-- its end, the bytes that it has yielded, and the number of failures
pub record StreamReading (R : Type 0) : Type 0 where
  pub reader : R
  pub left : ℕ
  pub is_ended : Bool
  pub yielded : List ℕ
  pub failures : ℕ

-- a source that has yielded nothing
abbrev pub new_reading : {R : Type 0} → R → ℕ → StreamReading R
new_reading reader limit =
    record { reader = reader; left = limit; is_ended = false; yielded = []; failures = 0 }

-- a sink that writes to a writer: the writer, the bytes that were taken, those of them that are not flushed, and the
-- numbers of flushes that succeeded and of failures
pub record StreamWriting (W : Type 0) : Type 0 where
  pub writer : W
  pub taken : List ℕ
  pub unflushed : List ℕ
  pub flushes : ℕ
  pub failures : ℕ

-- ---- what calls of a source leave unchanged

-- the bytes that the source will yield, if those of its reader are known
abbrev pub unread_of : {R : Type 0} → (R → Option (List ℕ)) → StreamReading R → Option (List ℕ)
unread_of remaining s = option_map (take s.left) (remaining s.reader)

-- the source is at its limit, or its reader is at the end
abbrev pub IsUsedUp : {R : Type 0} → (R → Option (List ℕ)) → StreamReading R → Type 0
IsUsedUp remaining s = (s.left ≡ 0) ⊎ IsAtEnd (remaining s.reader)

-- the bytes that were yielded are those that the reader lost, and they count towards the limit. If the remaining bytes
-- of the reader are known, the source reports its end only once it is used up
pub record KeepsReader {R : Type 0} (remaining : R → Option (List ℕ)) (a b : StreamReading R) : Type 0 where
  pub longer : StartsWith b.yielded a.yielded
  pub left : b.left + length b.yielded ≡ a.left + length a.yielded
  pub bytes : Consumes (remaining a.reader) (remaining b.reader) (added a.yielded b.yielded)
  pub at_end : IsSome (remaining a.reader) → (a.is_ended ≡ true → IsUsedUp remaining a) → b.is_ended ≡ true
      → IsUsedUp remaining b

-- ---- what calls of a sink leave unchanged

-- the writer contains the bytes that the sink took, they are not flushed, and no flush was called
abbrev pub KeepsWriter : {W : Type 0} → (W → Option (List ℕ)) → StreamWriting W → StreamWriting W → Type 0
KeepsWriter contents = PutsOnly (λ s. s.taken) (λ s. s.unflushed) (λ s. contents s.writer) (λ s. s.flushes)

-- ---- proofs that ghost members cite

pub KeepsReader-reflexive : {R : Type 0} (remaining : R → Option (List ℕ)) (a : StreamReading R)
    → KeepsReader remaining a a
KeepsReader-reflexive remaining a = record {
  longer = take-length a.yielded;
  left = refl;
  bytes = subst (Consumes _ _) (sym (drop-length a.yielded)) (Consumes-nil (remaining a.reader));
  at_end = λ _ used. used;
}

-- if the remaining bytes of a reader are known, they are still known after it has yielded some
pub still-told : (before after : Option (List ℕ)) (bytes : List ℕ) → Consumes before after bytes → IsSome before
    → IsSome after
still-told None after bytes gave told = absurd (cc told)
still-told (Some xs) None bytes gave told = absurd gave
still-told (Some xs) (Some ys) bytes gave told = refl

pub KeepsReader-transitive : {R : Type 0} (remaining : R → Option (List ℕ)) (a b c : StreamReading R)
    → KeepsReader remaining a b → KeepsReader remaining b c → KeepsReader remaining a c
KeepsReader-transitive remaining a b c p q = record {
  longer = starts_with_trans c.yielded b.yielded a.yielded q.longer p.longer;
  left = q.left ∙ p.left;
  bytes = Consumes-more _ _ _ a.yielded b.yielded c.yielded p.longer q.longer p.bytes q.bytes;
  at_end = λ told used. q.at_end (still-told _ _ _ p.bytes told) (p.at_end told used);
}
