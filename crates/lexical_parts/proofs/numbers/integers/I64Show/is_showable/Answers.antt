use Rattle.std.proofs.Common.{◌<◌, ◌^◌, rules, unsigned_abs, w64, arith}
use Rattle.std.proofs.lemmas.Int.{ints}
use Rattle.std.specs.Int.RustNames.{FitsSigned}
use Rattle.lexical_num.specs.Format.{standard}
use Rattle.lexical_parts.proofs.Equations.{only_text}
use Rattle.lexical_parts.proofs.numbers.integers.I64Show.is_showable.Goals as goal

pub returns-clause-only : goal.returns-clause-only
returns-clause-only c =
    let fits : FitsSigned w64 c.args.self = search rules in
    let small : unsigned_abs c.args.self < 2 ^ 64 = omega (arith, ints, fits) in
    λ _. only_text _ standard (omega arith) small
