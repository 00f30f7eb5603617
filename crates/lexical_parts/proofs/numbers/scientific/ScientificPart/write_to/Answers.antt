use Rattle.std.proofs.Common.{rules, w32}
use Rattle.std.proofs.lemmas.Int.{to_z-of_z}
use Rattle.lexical_write_integer.proofs.OfTexts.Sequences.{written_then}
use Rattle.lexical_parts.proofs.numbers.scientific.ScientificPart.write_to.Goals as goal

pub returns-clause-text : goal.returns-clause-text
returns-clause-text g c =
    let exponent = to_z-of_z w32 c.args.self.1 (search rules) in
    written_then _ _ _ _ _ _ _ _ c.write_to-start.ensures.text
    (rw exponent at c.write_magnitude.ensures.text)
