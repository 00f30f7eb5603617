use Rattle.std.proofs.Common.{true, arith}
use Rattle.lexical_num.proofs.Magnitudes.{magnitude-small}
use Rattle.lexical_num.specs.Format.{standard}
use Rattle.lexical_parts.proofs.Equations.{only_text}
use Rattle.lexical_parts.proofs.numbers.plus.PlusShow.is_showable.Goals as goal

pub returns-clause-only : goal.returns-clause-only
returns-clause-only g c =
    let number = g.T.LexicalInteger.number c.args.self.0 in
    let small = magnitude-small _ g.met.T.LexicalInteger.bit_width number c.in_range.ensures.at_least
    c.in_range.ensures.at_most in
    λ _. only_text number (record standard { required_mantissa_sign = true }) (omega arith) small
