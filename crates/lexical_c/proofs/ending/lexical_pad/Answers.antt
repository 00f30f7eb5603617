use Rattle.std.proofs.Common.{arith}
use Rattle.lexical_c.proofs.Endings.{padded}
use Rattle.lexical_c.proofs.ending.lexical_pad.Goals as goal

pub returns : goal.returns
returns c =
    padded _ _ _ _ _ _ _ (omega arith) (omega arith) (omega arith) (omega arith)
    c.length_of_sign-sign.ensures c.copy_within.ensures.after
    (c.fill.ensures.after (λ y is. is))
