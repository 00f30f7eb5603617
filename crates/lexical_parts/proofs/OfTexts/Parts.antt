-- What each file of parts names, as `#![tactic(auto, using(..))]`: their texts are UTF-8, and have the length that
-- `text_len` returns, and a part of which the prover computes the text has no other.
use Rattle.lexical_parts.proofs.OfTexts.Lengths.{lengths}
use Rattle.lexical_parts.proofs.OfTexts.OnlyTexts.{onlys}
use Rattle.lexical_parts.proofs.OfTexts.Utf8Changes.{changes}
use Rattle.lexical_parts.proofs.OfTexts.Utf8Texts.{kinds}

pub ruleset parts = (kinds, changes, lengths, onlys)
