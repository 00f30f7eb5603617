use Rattle.std.proofs.Common.{true, false, refl, arith}
use Rattle.lexical_write_integer.proofs.OfTexts.Signs.{sign_of-below, sign_of-other, take-minus, take-plus}
use Rattle.std.proofs.lemmas.List.{set-get_or}
use Rattle.lexical_write_integer.proofs.texts.to_lexical.write_sign.Goals as goal
use Rattle.lexical_write_integer.proofs.texts.to_lexical.write_sign.Goals.{then-is_negative}
use Rattle.lexical_write_integer.proofs.texts.to_lexical.write_sign.Goals.{else-is_negative+then-is_required}
use Rattle.lexical_write_integer.proofs.texts.to_lexical.write_sign.Goals.{else-is_negative+else-is_required}

-- the check finds this proof by itself, but with an answer the refusal of a mistake says what is wrong
pub returns-clause-sign : goal.returns-clause-sign
returns-clause-sign g c =
    let number = g.T.LexicalInteger.number c.args.number in
    let test = c.is_negative-is_negative.ensures in
    let bytes = c.args.buffer.now in
    let required = c.required_mantissa_sign-is_required.ensures in
    elim c.if-is_negative.branch [
      | then-is_negative w ↦
          rw (
            w.if-is_negative.true,
            w.buffer-is,
            sign_of-below number c.args.format.now.required_mantissa_sign test w.if-is_negative.true,
          )
          (take-minus bytes c.requires)
      | else-is_negative+then-is_required w ↦
          rw (
            w.if-is_negative.false,
            w.buffer-is,
            ← required,
            w.if-is_required.true,
            sign_of-other number true test w.if-is_negative.false,
          )
          (take-plus bytes true c.requires)
      | else-is_negative+else-is_required w ↦
          rw (
            w.if-is_negative.false,
            w.buffer-is,
            ← required,
            w.if-is_required.false,
            sign_of-other number false test w.if-is_negative.false,
          ) refl
    ]

-- for zero the cases are the same
pub returns-clause-none : goal.returns-clause-none
returns-clause-none g c zero =
    elim c.if-is_negative.branch [
      | then-is_negative w ↦ absurd (omega (arith, rw w.if-is_negative.true at zero))
      | else-is_negative+then-is_required w ↦
          absurd (omega (arith, rw (w.if-is_negative.false, w.if-is_required.true) at zero))
      | else-is_negative+else-is_required w ↦ rw w.buffer-is (set-get_or c.args.buffer.now 0 0)
    ]
