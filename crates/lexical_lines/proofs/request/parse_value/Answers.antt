use Rattle.lexical_lines.specs.Decimal.{IsDecimalNumeral}
use Rattle.lexical_lines.proofs.IntegerTypes.{Holds-lt}
use Rattle.lexical_lines.proofs.Requests.{IsValue-parts}
use Rattle.lexical_lines.proofs.request.parse_value.Goals as goal

pub returns-in_err-magnitude-clause-none : goal.returns-in_err-magnitude-clause-none
returns-in_err-magnitude-clause-none c = rw c.from_residual.ensures (λ number value.
    let parts = IsValue-parts value _ c.strip_sign-minus.result.0 c.strip_sign-minus.ensures.whole
    c.strip_sign-minus.ensures.stripped in
    let decimal : IsDecimalNumeral value.magnitude c.strip_sign-minus.result.1.now = rw parts.1 value.decimal in
    c.in_err-magnitude.ensures.none value.magnitude
    (Holds-lt c.args.kind value.minus value.magnitude value.holds) decimal)
