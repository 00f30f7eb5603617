use Rattle.std.proofs.Common.{rules}
use Rattle.lexical_write_integer.proofs.OfTexts.Sequences.{written_then}
use Rattle.lexical_parts.proofs.OfTexts.Utf8Texts.{kinds}
use Rattle.lexical_parts.proofs.numbers.fixed.GroupedFixedPart.write_to.Goals as goal

pub returns-clause-text : goal.returns-clause-text
returns-clause-text g c = written_then _ _ _ _ _ _ _ _ c.write_to-start.ensures.text c.write_grouped_units.ensures.text

pub returns-clause-utf8 : goal.returns-clause-utf8
returns-clause-utf8 g c = λ _. search (rules, kinds)
