use Rattle.lexical_c.proofs.WrittenTexts.{as_decimal}
use Rattle.lexical_c.proofs.write.write_caseless.Goals as goal

pub returns-then-format-eq10 : goal.returns-then-format-eq10
returns-then-format-eq10 g c = as_decimal _ c.args.format.now _ _ _ c.requires.only c.if-format-eq10.true
    c.write_decimal.ensures
