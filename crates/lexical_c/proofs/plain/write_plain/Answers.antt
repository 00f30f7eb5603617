use Rattle.std.proofs.Common.{◌≤◌, length, unsigned_abs, arith}
use Rattle.std.proofs.lemmas.List.{drop-set-lt, length-set}
use Rattle.lexical_write_integer.proofs.OfDigits.Count.DigitCounts.{digit_count-pos}
use Rattle.lexical_write_integer.proofs.OfTexts.Required.{need-pos}
use Rattle.lexical_c.proofs.PlainTexts.{after_sign, take-sign}
use Rattle.lexical_c.proofs.plain.write_plain.Goals as goal

pub bounds-buffer-0 : goal.bounds-buffer-0
bounds-buffer-0 g c = grind (arith, need-pos)

pub returns : goal.returns
returns g c =
    let number = g.T.LexicalInteger.number c.args.value in
    let bytes = c.args.buffer.now in
    let some = digit_count-pos c.args.format.now.mantissa_radix (unsigned_abs number) in
    let room : 1 ≤ length bytes = grind (arith, need-pos) in
    after_sign _ _ _ _ _ _ _ c.requires.groups c.sign_len-sign.ensures
    (rw c.requires.sign (take-sign number bytes (rw c.requires.sign at c.sign_len-sign.ensures) room))
    (length-set bytes 0 45) (drop-set-lt 1 bytes 0 45 (omega arith))
    (omega (arith, c.write_magnitude-2.ensures.digits.count, some)) c.write_magnitude-2.ensures.digits
