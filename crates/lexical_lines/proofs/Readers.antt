-- The bytes that a source has read from a reader.
use Rattle.std.proofs.lemmas.Grind.{common_steps}
use Rattle.std.proofs.Common.{◌≡◌, ◌⊎◌, ℕ, ◌+◌, true, List, [], ◌++◌, length, take, Option, Some, None, IsSome, ◌∙◌}
use Rattle.std.proofs.Common.{inr, ◌∷◌}
use Rattle.std.proofs.Common.{length-append, arith}
use Rattle.std.specs.Prelude.{option_map, nat_eq, ◌||◌, ◌<◌, ◌≤◌}
use Rattle.std.proofs.lemmas.Bool.Decides.{nat_tests}
use Rattle.std.proofs.lemmas.List.{length-take-le, take-append-le}
use lib.Seq.{take-append-add}
use Rattle.std.specs.Io.KnownBytes.{Consumes, IsAtEnd}
use Rattle.std.proofs.Math.Seq.{take-append_seam}
use Rattle.lexical_lines.proofs.Added.{added-is}
use Rattle.lexical_lines.specs.Stream.{StreamReading, KeepsReader, IsUsedUp}

-- ---- the bytes that a source will yield

-- a source yields what its reader loses
Consumes-limited : (before after : Option (List ℕ)) (limit left : ℕ) (more : List ℕ) → limit ≡ length more + left
    → Consumes before after more
    → Consumes (option_map (take limit) before) (option_map (take left) after) more
Consumes-limited None after limit left more count gave = tt
Consumes-limited (Some xs) None limit left more count gave = absurd gave
Consumes-limited (Some xs) (Some ys) limit left more count gave =
    (λ i. take (count i) (gave i)) ∙ take-append-add more ys left

-- if the limit is 0 or none of the known bytes is left, none of the known bytes up to the limit is left
IsAtEnd-limited : (known : Option (List ℕ)) (limit : ℕ) → (limit ≡ 0) ⊎ IsAtEnd known
    → IsAtEnd (option_map (take limit) known)
IsAtEnd-limited known limit is = grind (arith, common_steps)

-- ---- a read

-- a call that yields these bytes
pub KeepsReader-more : {R : Type 0} (remaining : R → Option (List ℕ)) (a b : StreamReading R) (more : List ℕ)
    → b.yielded ≡ a.yielded ++ more
    → b.left + length more ≡ a.left → Consumes (remaining a.reader) (remaining b.reader) more
    → (IsSome (remaining a.reader) → (a.is_ended ≡ true → IsUsedUp remaining a) → b.is_ended ≡ true
    → IsUsedUp remaining b)
    → KeepsReader remaining a b
KeepsReader-more remaining a b more yielded left gave at_end = grind (arith, take-append_seam, length-append, added-is)

-- if two lists in a row make an empty list, the second is empty
empty-right : (xs ys : List ℕ) → xs ++ ys ≡ [] → ys ≡ []
empty-right [] ys e = e
empty-right (x ∷ xs) ys e = absurd (cc e)

-- a reader that was at its end still is
pub still-at_end : (before after : Option (List ℕ)) (more : List ℕ) → Consumes before after more → IsSome before
    → IsAtEnd before → IsAtEnd after
still-at_end before after more gave told ended = grind (arith, empty-right)

-- a read into a block, which may be the start of a longer one
module _ (before after : Option (List ℕ)) (count : ℕ) (block rest : List ℕ) (room : 0 < length block)
    (within : count ≤ length block)
    (read : Consumes before after (take count block) × (count ≡ 0 → 0 < length block → IsAtEnd after)) where
  more : take count (block ++ rest) ≡ take count block
  more = take-append-le count block rest within

  -- the source yields what its reader loses in this read, and reports its end if that is nothing
  pub KeepsReader-read : {R : Type 0} (remaining : R → Option (List ℕ)) (a b : StreamReading R)
      → remaining a.reader ≡ before → remaining b.reader ≡ after
      → (a.left ≡ 0 → ⊥) → b.left + count ≡ a.left → b.yielded ≡ a.yielded ++ take count (block ++ rest)
      → b.is_ended ≡ (a.is_ended || nat_eq count 0)
      → KeepsReader remaining a b
  KeepsReader-read remaining a b old new some left yielded ended =
      KeepsReader-more remaining a b (take count block) (rw more at yielded)
      (omega (arith, left, length-take-le count block within)) (rw (old, new) read.0)
      (λ told used is. grind (arith, nat_tests, still-at_end before after (take count block) read.0, room))

  -- what a source with a limit will yield loses the bytes of a read, and a read of no bytes is at its end
  pub ReadConsumes-limited : (limit left : ℕ) → left + count ≡ limit
      → Consumes (option_map (take limit) before) (option_map (take left) after)
      (take count (block ++ rest)) × (count ≡ 0 → 0 < length (block ++ rest) → IsAtEnd (option_map (take left) after))
  ReadConsumes-limited limit left e = (
    rw more (Consumes-limited before after limit left (take count block)
        (omega (arith, e, length-take-le count block within)) read.0),
    λ none _. IsAtEnd-limited after left (inr (read.1 none room)),
  )
