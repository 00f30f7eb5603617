-- What a crate that answers lines names in its root file, as `#![tactic(auto, using(..))]`.
use Rattle.lexical_lines.proofs.Added.{added_on}
use Rattle.lexical_lines.proofs.Writers.{answers_held}

-- what calls that follow one another have added to a sink, and what the sink has written to a writer that was empty
pub ruleset callers = (added_on, answers_held)
