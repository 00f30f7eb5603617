use Rattle.std.proofs.Common.{◌^◌, ◌≤◌, arith}
use Rattle.lexical_write_integer.proofs.OfDigits.Count.DigitCounts.{digit_count-le_64}
use Rattle.lexical_write_integer.proofs.OfDigits.Radix.Loops.Divisions.{IsDivided-start, IsDivided-more, IsDivided-room}
use Rattle.lexical_write_integer.proofs.OfDigits.Radix.Loops.Divisions.{RemovesDigits-end, left-smaller}
use Rattle.lexical_write_integer.proofs.OfDigits.Radix.Loops.Divisions.{RemovesDigits-none}
use Rattle.lexical_write_integer.proofs.OfDigits.Count.RadixPowers.{power-gt_one}
use Rattle.lexical_write_integer.proofs.digits.count.remove_digits_by.Goals as goal
use Rattle.lexical_write_integer.proofs.digits.count.remove_digits_by.Goals.{In-loop-power}

long : (g : _) (c : In-loop-power g) → c.args.radix ^ c.args.step ≤ g.T.UnsignedInteger.magnitude c.loop-power.left
long g c = rw c.in-Some.ensures.power at (c.is_at_least.ensures.0 c.loop-power-test.true)

pub returns-in_default : goal.returns-in_default
returns-in_default g c =
    RemovesDigits-none c.requires.radix.at_least_two c.requires.step
    (omega (arith, c.fits_bits.ensures, c.in_default.ensures.too_great))

pub loop-power-init : goal.loop-power-init
loop-power-init g c = IsDivided-start

pub quotient-left-requires : goal.quotient-left-requires
quotient-left-requires g c = omega (
  arith,
  c.in-Some.ensures.power,
  power-gt_one _ _ c.requires.radix.at_least_two c.requires.step,
)

pub overflow_add-removed : goal.overflow_add-removed
overflow_add-removed g c =
    let narrow = digit_count-le_64 _ _ _ c.requires.radix.at_least_two g.met.T.UnsignedInteger.range.width
    c.fits_bits.ensures in
    let room = IsDivided-room c.requires.radix.at_least_two c.loop-power.invariant
    (rw c.in-Some.ensures.power at (c.is_at_least.ensures.0 c.loop-power-test.true)) in
    record { fits = omega (arith, narrow, room) }

pub loop-power-smaller : goal.loop-power-smaller
loop-power-smaller g c = grind (arith, left-smaller)

pub loop-power-preserved : goal.loop-power-preserved
loop-power-preserved g c = grind (arith, IsDivided-more)

pub returns : goal.returns
returns g c =
    let narrow = digit_count-le_64 _ _ _ c.requires.radix.at_least_two g.met.T.UnsignedInteger.range.width
    c.fits_bits.ensures in
    RemovesDigits-end c.requires.radix.at_least_two c.requires.step c.loop-power.invariant
    (grind (arith, c.is_at_least.ensures, c.in-Some.ensures.power, c.loop-power.invariant.fewer, narrow))
