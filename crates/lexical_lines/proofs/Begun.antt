-- A prefix of the answers, if a device fails.
use Rattle.std.proofs.Common.{◌≡◌, ℕ, Bool, true, false, List, ◌++◌, length, drop, ap, ◌∙◌, append_assoc, append-nil}
use Rattle.std.proofs.Transfers.{starts_with_of_append, starts_with_of_eq}
use Rattle.std.proofs.KnownBytes.{starts_with_rest}
use Rattle.std.specs.Io.{StartsWith}
use Rattle.lexical_lines.specs.Answer.{AnswersAll, AnswersEnded}
use Rattle.lexical_lines.specs.RunOutcome.{BreaksOff}
use Rattle.lexical_lines.proofs.UniqueAnswers.{AnswersAll-unique, AnswersEnded-begins, BreaksOff-begins}
use Rattle.lexical_lines.specs.StreamAnswers.{BeginsAnswers}

-- the answers to the lines that ended are a prefix of the answers to every longer input
pub begins-ended : (is_whole : Bool) (read put : List ℕ) → AnswersEnded read put → BeginsAnswers is_whole read put
begins-ended is_whole read put answered = λ more text whole all.
    let (rest, e) = AnswersEnded-begins read more put text answered all in
    starts_with_of_append text put rest e

-- answers that broke off within the bytes that were read next are a prefix of the answers to every longer input
pub begins-broken : (is_whole : Bool) (read next front put : List ℕ) → StartsWith next front
    → BreaksOff false (read ++ front) put
    → BeginsAnswers is_whole (read ++ next) put
begins-broken is_whole read next front put begun broke = λ more text whole all.
    let rest = drop (length front) next in
    let parts : (read ++ next) ++ more ≡ (read ++ front) ++ (rest ++ more) =
    ap (λ bytes. (read ++ bytes) ++ more) (starts_with_rest next front begun) ∙ regroup read front rest more in
    let (last, some, e) = BreaksOff-begins false (read ++ front) (rest ++ more) put text (λ wrong. absurd (cc wrong))
    broke (rw parts at all) in
    starts_with_of_append text put last e
  where
    regroup : (a b c d : List ℕ) → (a ++ (b ++ c)) ++ d ≡ (a ++ b) ++ (c ++ d)
    regroup a b c d = simp append_assoc

-- if these bytes are the whole input, answers that broke off within the last one are a prefix of its answers
pub begins-last : (is_whole : Bool) (read put : List ℕ) → is_whole ≡ true → BreaksOff true read put
    → BeginsAnswers is_whole read put
begins-last is_whole read put is broke = λ more text whole all.
    let (last, some, e) = BreaksOff-begins true read more put text (λ _. whole is) broke all in
    starts_with_of_append text put last e

-- if these bytes are the whole input, the answers to all its lines are a prefix of its answers
pub begins-all : (is_whole : Bool) (read put : List ℕ) → is_whole ≡ true → AnswersAll read put
    → BeginsAnswers is_whole read put
begins-all is_whole read put is answered = λ more text whole all.
    let same : read ++ more ≡ read = ap (λ bytes. read ++ bytes) (whole is) ∙ append-nil read in
    starts_with_of_eq text put (AnswersAll-unique read text put (rw same at all) answered)
