use Rattle.std.proofs.Common.{◌-◌, length, take, unsigned_abs, arith}
use Rattle.lexical_num.proofs.Magnitudes.{decimal_width-le_20}
use Rattle.lexical_write_integer.proofs.Buffers.Prefixes.{Writes-is}
use Rattle.lexical_parts.proofs.OfTexts.Conversions.{written_as}
use Rattle.lexical_parts.proofs.OfNumbers.TrimmedUnits.{AreTrimmed, trimmed, trimmed_fraction, trimmed_whole}
use Rattle.lexical_parts.proofs.numbers.trimmed.write_trimmed_units.Goals as goal
use Rattle.lexical_parts.proofs.numbers.trimmed.write_trimmed_units.Goals.{After-count_without_zeros-kept}

pub write_units-count-requires-clause-room : goal.write_units-count-requires-clause-room
write_units-count-requires-clause-room g c = grind (arith, decimal_width-le_20)

-- what is left of the units, whose whole part has this many digits
left : (g : _) (c : After-count_without_zeros-kept g) →
    let digits = take c.write_units-count.result c.write_units-count.new.buffer in
    let whole = length digits - c.args.decimals in
    AreTrimmed c.args.decimals (unsigned_abs (g.T.LexicalInteger.number c.args.number)) whole
    (c.count_without_zeros-kept.result - whole) digits
left g c =
    let are = Writes-is _ _ _ c.write_units-count.ensures in
    let kept = c.count_without_zeros-kept.ensures in
    trimmed are kept.some kept.within kept.zeros kept.last

pub returns-then-kept-whole-clause-text : goal.returns-then-kept-whole-clause-text
returns-then-kept-whole-clause-text g c =
    let are = left g (goal.at.returns-then-kept-whole-clause-text g c).After-count_without_zeros-kept in
    written_as (trimmed_whole are (omega arith)) c.write_to.ensures.text

pub returns-clause-text : goal.returns-clause-text
returns-clause-text g c =
    let are = left g (goal.at.returns-clause-text g c).After-count_without_zeros-kept in
    written_as (trimmed_fraction are (omega arith)) c.write_to-2.ensures.text
