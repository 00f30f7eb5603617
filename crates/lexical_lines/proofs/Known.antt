-- What callers know if the bytes of the source and the contents of the sink are known.
use Rattle.std.proofs.Common.{◌≡◌, ℕ, ◌-◌, ◌^◌, Bool, List, ◌++◌, take, Option, IfSome, arith}
use Rattle.std.proofs.Transfers.{starts_with_of_append}
use Rattle.std.specs.Option.{option_map}
use Rattle.std.specs.Io.{StartsWith}
use Rattle.std.specs.Io.KnownBytes.{Appends, Consumes}
use Rattle.lexical_lines.specs.Answer.{AnswersAll}
use Rattle.lexical_lines.specs.BlockWriter.{BlockWriting}
use Rattle.lexical_lines.specs.RunOutcome.{ReportsAllValid}
use Rattle.lexical_lines.specs.StreamAnswers.{AllAnswered, WritesAllAnswers, bytes_put}

-- if the bytes of a source are known and what was read is all of them up to a limit, a text that answers all lines of
-- what was read answers all lines of the known bytes up to the limit
answers-limited : (limit : ℕ) (known : Option (List ℕ)) (read text : List ℕ)
    → IfSome (option_map (take limit) known) (λ bytes. read ≡ bytes)
    → AnswersAll read text → IfSome known (λ bytes. AnswersAll (take limit bytes) text)
answers-limited limit known read text all answers = grind arith

-- the sink has taken what was in the block and the answers to all lines, up to the limit
pub answers-known : (known : Option (List ℕ)) {failures : ℕ} {is_ended : Bool} {read : List ℕ} (c d : BlockWriting)
    → AllAnswered failures (option_map (take (2 ^ 63 - 1)) known) is_ended read c d → WritesAllAnswers known c d
answers-known known {read = read} c d h = record {
  text = bytes_put c d;
  contents = h.handed.contents;
  answers = answers-limited (2 ^ 63 - 1) known read (bytes_put c d) h.all h.answers;
}

-- a report about the bytes that were read is one about the known bytes, up to the limit
pub reports-known : (limit : ℕ) (known : Option (List ℕ)) (read : List ℕ) (all_valid : Bool)
    → IfSome (option_map (take limit) known) (λ bytes. read ≡ bytes) → ReportsAllValid read all_valid
    → IfSome known (λ bytes. ReportsAllValid (take limit bytes) all_valid)
reports-known limit known read all_valid all reports = grind arith

-- what was read is a prefix of the known bytes, up to the limit
pub begins-known : (limit : ℕ) (known new : Option (List ℕ)) (read : List ℕ)
    → Consumes (option_map (take limit) known) new read
    → IfSome known (λ bytes. StartsWith (take limit bytes) read)
begins-known limit known new read h = grind (arith, starts_with_of_append)
