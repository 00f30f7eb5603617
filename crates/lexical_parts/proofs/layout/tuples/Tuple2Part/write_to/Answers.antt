use Rattle.std.proofs.Common.{arith}
use Rattle.lexical_write_integer.proofs.OfTexts.Sequences.{written_then}
use Rattle.lexical_parts.proofs.OfTexts.Utf8Texts.{then_is_utf8}
use Rattle.lexical_parts.proofs.layout.tuples.Tuple2Part.write_to.Goals as goal

pub returns-clause-text : goal.returns-clause-text
returns-clause-text g c = written_then _ _ _ _ _ _ _ _ c.write_to-first.ensures.text c.write_to.ensures.text

pub returns-clause-at_most : goal.returns-clause-at_most
returns-clause-at_most g c = omega (arith, c.write_to-first.ensures.at_most, c.write_to.ensures.at_most)

pub returns-clause-utf8 : goal.returns-clause-utf8
returns-clause-utf8 g c = λ both. then_is_utf8 (c.write_to-first.ensures.utf8 both.0) (c.write_to.ensures.utf8 both.1)
