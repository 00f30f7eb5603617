use Rattle.std.proofs.Common.{sym, ◌∙◌}
use Rattle.lexical_parts.proofs.laws.equal.equal_zero_padded.Goals as goal

pub returns : goal.returns
returns g c = λ both.
    g.met.T.LexicalInteger.equal_by_number _ _ (
    sym (c.zero_padded_read_back.ensures.signed both.text both.is).value
    ∙ (c.zero_padded_read_back-2.ensures.signed both.text both.also).value
    )
