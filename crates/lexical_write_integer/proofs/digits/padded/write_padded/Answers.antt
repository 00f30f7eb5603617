use Rattle.std.proofs.Common.{◌≡◌, ℕ, ◌+◌, ◌-◌, ◌≤◌, List, ◌++◌, length, take, drop, replicate, refl, sym, ap, ◌∙◌}
use Rattle.std.proofs.Common.{arith}
use Rattle.std.proofs.lemmas.List.{length-replicate, length-take-le}
use Rattle.lexical_write_integer.specs.Buffer.{Front}
use Rattle.lexical_write_integer.specs.DigitCount.{digit_count, digit_count-le}
use Rattle.lexical_write_integer.proofs.Buffers.Prefixes.{Writes-after}
use Rattle.lexical_write_integer.proofs.OfDigits.PaddedDigits.{IsPadded-digits}
use Rattle.lexical_write_integer.proofs.digits.padded.write_padded.Goals as goal

-- a zero is written in each byte before the digits
zeros_are : (zeros : ℕ) (before written : List ℕ) → zeros ≤ length before
    → written ≡ replicate (length (take zeros before)) 48 → written ≡ replicate zeros 48
zeros_are zeros before written within is = is ∙ ap (λ n. replicate n 48) (length-take-le zeros before within)

-- a number below `radix ^ width` has at most `width` digits
pub prove-unreachable-requires-2 : goal.prove-unreachable-requires-2
prove-unreachable-requires-2 g c = grind (arith, digit_count-le)

pub write_in_constant_radix-requires-clause-room : goal.write_in_constant_radix-requires-clause-room
write_in_constant_radix-requires-clause-room g c = grind arith

pub returns-clause-digits : goal.returns-clause-digits
returns-clause-digits g c =
    let zeros = length c.args.buffer.now - c.digit_count-count.result in
    let long = length-replicate zeros 48 in
    let front : Front c.args.buffer.now (c.write_zeros.new.buffer ++ drop zeros c.args.buffer.now)
    (replicate zeros 48) = record {
      fits = omega (arith, long);
      written = rw (zeros_are zeros c.args.buffer.now _ (omega arith) c.write_zeros.ensures, long) refl;
    } in
    let width : zeros + digit_count c.args.radix (g.T.UnsignedInteger.magnitude c.args.value)
    ≡ length c.args.buffer.now =
    omega (arith, c.digit_count-count.ensures.count) in
    Writes-after (replicate zeros 48) c.args.buffer.now _ _ zeros _ _ (sym long) front
    (λ text. IsPadded-digits c.args.radix (g.T.UnsignedInteger.magnitude c.args.value) zeros
    (length c.args.buffer.now) text c.requires.radix.at_least_two width)
    c.write_in_constant_radix.ensures.digits.writes
