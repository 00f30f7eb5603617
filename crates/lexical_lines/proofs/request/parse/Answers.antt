use Rattle.std.proofs.Common.{sym, ◌∙◌}
use Rattle.lexical_lines.proofs.Decimals.{IsDecimalNumeral-from_digits}
use Rattle.lexical_lines.proofs.Requests.{short_line-is, IsRequest-front, IsRequest-value}
use Rattle.lexical_lines.proofs.request.parse.Goals as goal

pub returns-in_err-radix-clause-none : goal.returns-in_err-radix-clause-none
returns-in_err-radix-clause-none c = rw c.from_residual-in_err-radix.ensures (λ bytes is (kind, plus, radix, number, h).
    let (name, sign, rest) = IsRequest-front h c.in_ok-kind.kind _ _ _ (short_line-is (rw c.in_ok-line.was at is)
    ∙ c.in_ok-kind.ensures.found)
    c.strip_sign-plus.ensures.whole c.strip_sign-plus.ensures.stripped in
    c.in_err-radix.ensures.none radix h.radix_text h.value_text h.radix_valid h.radix_digits rest)

pub returns-in_err-number-clause-none : goal.returns-in_err-number-clause-none
returns-in_err-number-clause-none c =
    rw c.from_residual-in_err-number.ensures (λ bytes is (kind, plus, radix, number, h).
    let (name, sign, rest) = IsRequest-front h c.in_ok-kind.kind _ _ _ (short_line-is (rw c.in_ok-line.was at is)
    ∙ c.in_ok-kind.ensures.found)
    c.strip_sign-plus.ensures.whole c.strip_sign-plus.ensures.stripped in
    let (valid, (digits, are, whole)) = c.in_ok-radix.ensures.found in
    let value = IsRequest-value h digits c.in_ok-radix.value.now (sym rest ∙ whole)
    (IsDecimalNumeral-from_digits _ digits are).bytes in
    c.in_err-number.ensures.none number (rw (name, value.1) h.value))
