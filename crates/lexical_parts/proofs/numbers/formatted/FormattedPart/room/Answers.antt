use Rattle.std.proofs.Common.{◌≡◌, length, sym, ◌∙◌, arith}
use Rattle.lexical_num.specs.Range.{least_of}
use Rattle.lexical_num.specs.Sign.{sign_of}
use Rattle.lexical_parts.specs.Formatted.{count_in, largest_magnitude}
use Rattle.lexical_parts.proofs.OfNumbers.FormattedRooms.{largest-small, room-le, sign-signed, sign-unsigned}
use Rattle.lexical_parts.proofs.OfNumbers.FormattedRooms.{count_in-is}
use Rattle.lexical_parts.proofs.numbers.formatted.FormattedPart.room.Goals as goal
use Rattle.lexical_parts.proofs.numbers.formatted.FormattedPart.room.Goals.{then-IS_SIGNED, else-IS_SIGNED}

pub returns : goal.returns
returns g c =
    let format = c.args.self.1.now in
    let integer = g.T.LexicalInteger in
    let width = g.met.T.LexicalInteger.bit_width in
    let two = c.in_range.ensures.mantissa.at_least_two in
    let largest = largest_magnitude integer.BITS integer.IS_SIGNED in
    let sign : c.from-sign.result ≡ length (sign_of (least_of integer.BITS integer.IS_SIGNED)
    format.required_mantissa_sign) =
    elim c.if-IS_SIGNED.branch [
      | then-IS_SIGNED w ↦
          rw (w.from-is, w.if-IS_SIGNED.true) at c.from-sign.ensures
          ∙ sym (sign-signed integer.BITS format.required_mantissa_sign (sym c.IS_SIGNED.ensures ∙ w.if-IS_SIGNED.true))
      | else-IS_SIGNED w ↦
          rw (w.from-is, w.required_mantissa_sign.ensures) at c.from-sign.ensures
          ∙ sym (sign-unsigned integer.BITS format.required_mantissa_sign
          (sym c.IS_SIGNED.ensures ∙ w.if-IS_SIGNED.false))
    ] in
    let digits : c.digit_count-digits.result ≡ count_in format.mantissa_radix largest =
    rw (c.mantissa_radix.ensures.value, c.largest_magnitude.ensures) at c.digit_count-digits.ensures.count
    ∙ sym (count_in-is format.mantissa_radix largest two (largest-small integer.IS_SIGNED width)) in
    omega (arith, sign, rw digits at c.grouped_len.ensures, room-le integer.IS_SIGNED format width two)
