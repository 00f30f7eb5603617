use Rattle.std.proofs.Common.{◌≡◌, ◌+◌, length, ap, ◌∙◌, arith}
use Rattle.lexical_num.proofs.Magnitudes.{magnitude-small}
use Rattle.lexical_write_integer.specs.Computed.{text_of}
use Rattle.lexical_write_integer.specs.DigitCount.{digit_count}
use Rattle.lexical_c.proofs.Hexadecimals.{hexadecimal, hexadecimal_valid, with_sign}
use Rattle.lexical_c.proofs.TextLengths.{length-text_of}
use Rattle.lexical_c.proofs.hexadecimal.write_hexadecimal.Goals as goal
use Rattle.lexical_c.proofs.hexadecimal.write_hexadecimal.Goals.{After-digit_count}

long : (g : _) (c : After-digit_count g) → c.sign_len-sign.result + c.digit_count.result
    ≡ length (text_of (g.T.LexicalInteger.number c.args.value) hexadecimal)
long g c =
    let number = g.T.LexicalInteger.number c.args.value in
    let small = magnitude-small _ g.met.T.LexicalInteger.bit_width _ c.in_range.ensures.at_least
    c.in_range.ensures.at_most in
    let digits = c.digit_count.ensures.count ∙ ap (digit_count 16) c.magnitude-magnitude.ensures in
    omega (arith, length-text_of number hexadecimal hexadecimal_valid small, c.sign_len-sign.ensures, digits)

pub returns-then-end-buffer-clause-fits : goal.returns-then-end-buffer-clause-fits
returns-then-end-buffer-clause-fits g c =
    let long = long g (goal.at.returns-then-end-buffer-clause-fits g c).After-digit_count in
    (λ some. absurd (omega (arith, some)), λ fits. absurd (omega (arith, long, fits)))

pub returns-clause-fits : goal.returns-clause-fits
returns-clause-fits g c =
    let long = long g (goal.at.returns-clause-fits g c).After-digit_count in
    (λ _. omega (arith, long), λ _. omega (arith, c.digit_count.ensures.some))

pub returns-clause-text : goal.returns-clause-text
returns-clause-text g c _ = grind (arith, with_sign)
