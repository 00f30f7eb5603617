use Rattle.lexical_write_integer.proofs.OfTexts.Signs.{sign_of-below, sign_of-other, length-plus}
use Rattle.lexical_write_integer.proofs.texts.to_lexical.sign_len.Goals as goal
use Rattle.lexical_write_integer.proofs.texts.to_lexical.sign_len.Goals.{then-is_negative, else-is_negative}

pub returns : goal.returns
returns g c =
    let number = g.T.LexicalInteger.number c.args.number in
    let required = c.args.format.now.required_mantissa_sign in
    let test = c.is_negative.ensures in
    elim c.if-is_negative.branch [
      | then-is_negative w ↦ rw (sign_of-below number required test w.if-is_negative.true)
          (rw (w.from-is, w.if-is_negative.true) at c.from.ensures)
      | else-is_negative w ↦
          rw (sign_of-other number required test w.if-is_negative.false, length-plus required)
          (rw (w.from-is, w.required_mantissa_sign.ensures) at c.from.ensures)
    ]
