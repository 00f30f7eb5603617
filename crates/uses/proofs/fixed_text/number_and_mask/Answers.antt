use Rattle.std.proofs.Common.{refl, arith}
use Rattle.lexical_parts.proofs.Equations.{then_equation, only_then, only_exactly, only_digits, only_text}
use Rattle.uses.proofs.fixed_text.number_and_mask.Goals as goal

pub returns : goal.returns
returns c =
    then_equation c.to_text.ensures.text (only_text _ _ (omega arith) (omega arith))
    (only_then (only_exactly _) (only_digits 16 _ (omega arith) (omega arith))) refl
