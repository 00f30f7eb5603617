-- The states of `SliceSource` and `SliceSink` in contracts.
use Rattle.std.specs.Prelude.{◌≡◌, ◌⊎◌, ℕ, ◌+◌, Bool, true, List, [], ◌++◌, length, take, drop, refl}
use Rattle.std.proofs.Common.{arith, sym, ap, ◌∙◌, inl, inr, append_assoc, length-append}
use Rattle.std.proofs.lemmas.List.{nil_from_length}
use base.Fml.{GName}
use Rattle.lexical_lines.specs.declared.devices.slice.SliceSink.{SliceSink}

-- ---- the source

-- the bytes that were yielded, those that are left, and whether the source has reported its end
pub record SliceReading : Type 0 where
  pub yielded : List ℕ
  pub left : List ℕ
  pub is_ended : Bool

-- the bytes as a whole are unchanged, and once the source has reported its end, none are left
pub record KeepsSlice (a b : SliceReading) : Type 0 where
  pub whole : b.yielded ++ b.left ≡ a.yielded ++ a.left
  pub at_end : (a.is_ended ≡ true → a.left ≡ []) → b.is_ended ≡ true → b.left ≡ []

-- ---- the sink

-- the bytes that were taken, which are at the start of the buffer
abbrev pub taken_in : SliceSink → List ℕ
taken_in sink = take sink.count sink.buffer.now

-- the bytes of the buffer after those
abbrev pub rest_in : SliceSink → List ℕ
rest_in sink = drop sink.count sink.buffer.now

-- the loan of the buffer
abbrev pub loan_in : SliceSink → GName
loan_in sink = sink.buffer.ghost_name

-- the number of failures
abbrev pub failures_in : SliceSink → ℕ
failures_in sink = sink.trace.failures

-- the loan is unchanged. The first bytes of the rest were written over, and the others are unchanged. If the sink
-- failed, its buffer is full
pub record KeepsBuffer (a b : SliceSink) : Type 0 where
  pub loan : loan_in b ≡ loan_in a
  pub over : List ℕ
  pub rest : rest_in a ≡ over ++ rest_in b
  pub longer : length (taken_in b) ≡ length (taken_in a) + length over
  pub full : (failures_in b ≡ failures_in a) ⊎ (rest_in b ≡ [])

-- ---- proofs that ghost members cite

pub KeepsSlice-reflexive : (a : SliceReading) → KeepsSlice a a
KeepsSlice-reflexive a = record { whole = refl; at_end = λ none. none }

pub KeepsSlice-transitive : (a b c : SliceReading) → KeepsSlice a b → KeepsSlice b c → KeepsSlice a c
KeepsSlice-transitive a b c p q = record { whole = q.whole ∙ p.whole; at_end = λ none. q.at_end (p.at_end none) }

pub KeepsBuffer-reflexive : (a : SliceSink) → KeepsBuffer a a
KeepsBuffer-reflexive a = record { loan = refl; over = []; rest = refl; longer = omega arith; full = inl refl }

pub KeepsBuffer-transitive : (a b c : SliceSink) → KeepsBuffer a b → KeepsBuffer b c → KeepsBuffer a c
KeepsBuffer-transitive a b c p q = record {
  loan = q.loan ∙ p.loan;
  over = p.over ++ q.over;
  rest = p.rest ∙ ap (λ rest. p.over ++ rest) q.rest ∙ sym (append_assoc p.over q.over (rest_in c));
  longer = omega (arith, p.longer, q.longer, length-append p.over q.over);
  full = elim q.full [
    | inr full ↦ inr full
    | inl same ↦ elim p.full [
      | inl before ↦ inl (same ∙ before)
      | inr full ↦
          let none = ap length (sym q.rest ∙ full) in
          inr (nil_from_length (rest_in c) (omega (arith, none, length-append q.over (rest_in c))))
    ]
  ];
}
