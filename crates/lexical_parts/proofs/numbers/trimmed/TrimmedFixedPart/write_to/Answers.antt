use Rattle.lexical_write_integer.proofs.OfTexts.Sequences.{written_then}
use Rattle.lexical_parts.proofs.numbers.trimmed.TrimmedFixedPart.write_to.Goals as goal

pub returns-clause-text : goal.returns-clause-text
returns-clause-text g c = written_then _ _ _ _ _ _ _ _ c.write_to-start.ensures.text c.write_trimmed_units.ensures.text
