use Rattle.std.proofs.Common.{refl, sym, ◌∙◌}
use Rattle.lexical_parts.proofs.laws.equal.equal_fixed.Goals as goal

pub returns : goal.returns
returns g c = λ both.
    g.met.T.LexicalInteger.equal_by_number _ _ (
    sym (c.fixed_read_back.ensures.signed _ (record { original = both.text; is = both.is; whole = refl })).value
    ∙ (c.fixed_read_back-2.ensures.signed _ (record { original = both.text; is = both.also; whole = refl })).value
    )
