-- The bytes that a sink has written to a writer.
use Rattle.std.proofs.Common.{◌≡◌, ℕ, List, [], take, Option, Some, Result, arith}
use Rattle.std.specs.Io.KnownBytes.{Appends, WriteAppends}
use Rattle.std.proofs.KnownBytes.{Appends-nil}
use Rattle.lexical_lines.specs.Answer.{AnswersAll}
use Rattle.lexical_lines.specs.RunOutcome.{added}
use Rattle.lexical_lines.specs.Sink.{taken_by}
use Rattle.lexical_lines.proofs.Added.{added-is}
use Rattle.lexical_lines.specs.Stream.{StreamWriting, KeepsWriter}

-- a write appends the bytes that it took
pub appends-taken : {E : Type 0} (old new : Option (List ℕ)) (outcome : Result ℕ E) (bytes : List ℕ)
    → WriteAppends old new outcome bytes
    → Appends old new (take (taken_by outcome) bytes)
appends-taken old new outcome bytes wrote = grind (arith, Appends-nil)

-- if a writer was empty, it now contains the answers that its sink has taken
pub answers_held : {W : Type 0} (contents : W → Option (List ℕ)) {bytes items : List ℕ} {a b : StreamWriting W}
    → AnswersAll bytes (added a.taken b.taken) → KeepsWriter contents a b → contents a.writer ≡ Some []
    → contents b.writer ≡ Some items
    → AnswersAll bytes items
answers_held contents {bytes = bytes} {items = items} {a = a} {b = b} answers kept empty full = grind (arith, added-is)
