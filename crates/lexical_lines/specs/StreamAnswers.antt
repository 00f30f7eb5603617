-- What was read and written while the lines of a source were answered.
use Rattle.std.specs.Prelude.{◌≡◌, ◌⊎◌, ℕ, ◌+◌, ◌-◌, ◌^◌, Bool, true, List, [], ◌++◌, length, take, Option, IfSome}
use Rattle.std.specs.Prelude.{IsSome}
use Rattle.std.specs.Io.{StartsWith}
use Rattle.std.specs.Io.KnownBytes.{Appends, Consumes, IsAtEnd}
use Rattle.lexical_lines.specs.declared.answer.answerer.Answerer.{Answerer}
use Rattle.lexical_lines.specs.Answer.{AnswersAll, AnswersEnded}
use Rattle.lexical_lines.specs.Answerer.{HasAnswered}
use Rattle.lexical_lines.specs.BlockWriter.{BlockWriting, taken, TakesMore, IsFlushed}
use Rattle.lexical_lines.specs.RunOutcome.{added}

-- from one state of a source to a later one, it yielded these bytes. If the bytes that it will yield are known, it
-- reports its end only if none is left
pub record Yields {S : Type 0} (yielded : S → List ℕ) (remaining : S → ℕ) (unread : S → Option (List ℕ))
    (is_ended : S → Bool) (a b : S) (more : List ℕ) : Type 0 where
  pub bytes : yielded b ≡ yielded a ++ more
  pub left : remaining b + length more ≡ remaining a
  pub known : Consumes (unread a) (unread b) more
  pub at_end : IsSome (unread a) → (is_ended a ≡ true → IsAtEnd (unread a)) → is_ended b ≡ true → IsAtEnd (unread b)

-- the bytes that a writer took from one state to a later one
abbrev pub bytes_put : BlockWriting → BlockWriting → List ℕ
bytes_put c d = added (taken c) (taken d)

-- ---- what was answered: to the bytes that were read, from the first state of the writer to a later one

-- the text is a prefix of the answers to every input that begins with these bytes, or of the answers to these bytes if
-- they are the whole input
abbrev pub BeginsAnswers : Bool → List ℕ → List ℕ → Type 0
BeginsAnswers is_whole read put = (more text : List ℕ) → (is_whole ≡ true → more ≡ [])
    → AnswersAll (read ++ more) text → StartsWith text put

-- the bytes that were in the block, and all bytes that were taken since, are written and flushed
pub record HandedAll (c d : BlockWriting) : Type 0 where
  pub flushed : IsFlushed d
  pub contents : Appends c.contents d.contents (c.held ++ bytes_put c d)

-- no device failed. The source yielded all its bytes, and the answers to all their lines are written
pub record AllAnswered (failures : ℕ) (unread : Option (List ℕ)) (is_ended : Bool) (read : List ℕ) (c d : BlockWriting)
    : Type 0 where
  pub no_failure : (failures ≡ 0) × (d.failures ≡ 0)
  pub ended : is_ended ≡ true
  pub all : IfSome unread (λ bytes. read ≡ bytes)
  pub answers : AnswersAll read (bytes_put c d)
  pub handed : HandedAll c d

-- only one read failed, and the answers to all lines that had ended are written
pub record ReadFailed (failures : ℕ) (read : List ℕ) (c d : BlockWriting) : Type 0 where
  pub failure : (failures ≡ 1) × (d.failures ≡ 0)
  pub answers : AnswersEnded read (bytes_put c d)
  pub handed : HandedAll c d

-- only one write or one flush failed, and what was taken is a prefix of the answers
pub record WriteFailed (failures : ℕ) (is_ended : Bool) (read : List ℕ) (c d : BlockWriting) : Type 0 where
  pub failure : (failures ≡ 0) × (d.failures ≡ 1)
  pub begins : BeginsAnswers is_ended read (bytes_put c d)

-- only one call of a device failed
abbrev pub OneFailed : ℕ → Bool → List ℕ → BlockWriting → BlockWriting → Type 0
OneFailed failures is_ended read c d = ReadFailed failures read c d ⊎ WriteFailed failures is_ended read c d

-- what a call reads of these bytes of a reader
abbrev pub bytes_read : List ℕ → List ℕ
bytes_read bytes = take (2 ^ 63 - 1) bytes

-- the sink has taken what was in the block and then a text, and nothing else. If the bytes of the reader are known, the
-- text is the answers to all their lines
pub record WritesAllAnswers (remaining : Option (List ℕ)) (c d : BlockWriting) : Type 0 where
  pub text : List ℕ
  pub contents : Appends c.contents d.contents (c.held ++ text)
  pub answers : IfSome remaining (λ bytes. AnswersAll (bytes_read bytes) text)

-- one call of a device failed after these bytes, which are the first of the reader, if its bytes are known
pub record FailsAfter (remaining : Option (List ℕ)) (c d : BlockWriting) : Type 0 where
  pub read : List ℕ
  pub first : IfSome remaining (λ bytes. StartsWith (bytes_read bytes) read)
  pub failures : ℕ
  pub is_ended : Bool
  pub failed : OneFailed failures is_ended read c d

-- no device has failed, and the answerer has received the bytes that were read
pub record IsUnderWay (failures : ℕ) (read : List ℕ) (c d : BlockWriting) (answerer : Answerer) : Type 0 where
  pub no_failure : (failures ≡ 0) × (d.failures ≡ 0)
  pub written : TakesMore c d
  pub answered : HasAnswered read (bytes_put c d) answerer
