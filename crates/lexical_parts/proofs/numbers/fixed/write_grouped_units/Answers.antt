use Rattle.std.proofs.Common.{ℕ, ◌-◌, ◌≤◌, length, take, drop, refl, arith}
use Rattle.std.proofs.lemmas.List.{length-drop, length-take}
use Rattle.lexical_parts.proofs.OfNumbers.GroupedUnits.{grouped_units-le, written_with_point, written_without_point}
use Rattle.lexical_parts.proofs.numbers.fixed.write_grouped_units.Goals as goal

pub group_digits-requires-clause-room : goal.group_digits-requires-clause-room
group_digits-requires-clause-room g c =
    let units = c.write_units-count in
    omega (arith, grouped_units-le c.args.format.now.digit_grouping units.ensures, units.auto.buffer, c.requires.room)

pub returns-then-decimals-eq0-clause-text : goal.returns-then-decimals-eq0-clause-text
returns-then-decimals-eq0-clause-text g c =
    let moved = c.group_digits.ensures in
    written_without_point c.if-decimals-eq0.true c.write_units-count.ensures moved.groups moved.count moved.total

pub returns-then-decimals-eq0-clause-at_most : goal.returns-then-decimals-eq0-clause-at_most
returns-then-decimals-eq0-clause-at_most g c =
    omega (
      arith,
      grouped_units-le c.args.format.now.digit_grouping c.write_units-count.ensures,
      c.group_digits.ensures.total,
    )

pub insert_fill-requires : goal.insert_fill-requires
insert_fill-requires g c =
    let units = c.write_units-count in
    let within = grouped_units-le c.args.format.now.digit_grouping units.ensures in
    omega (
      arith,
      within,
      units.ensures.count,
      units.ensures.is.more,
      units.auto.buffer,
      c.requires.room,
      c.grouped_len.ensures,
      c.if-decimals-eq0.false,
      length-take {A = ℕ},
      length-drop {A = ℕ},
    )

pub returns-clause-text : goal.returns-clause-text
returns-clause-text g c =
    let moved = c.group_digits-2.ensures in
    let units = c.write_units-count in
    let whole = units.result - c.args.decimals in
    let some : 1 ≤ c.args.decimals = omega (arith, c.if-decimals-eq0.false) in
    let enough : c.args.decimals ≤ length (take (length units.new.buffer - whole) (drop whole units.new.buffer)) =
    omega (
      arith,
      units.ensures.front.fits,
      units.ensures.count,
      units.ensures.is.more,
      units.auto.buffer,
      length-take {A = ℕ},
      length-drop {A = ℕ},
    ) in
    written_with_point _ units.ensures refl some (omega (arith, c.grouped_len.ensures))
    enough c.insert_fill.ensures moved.groups moved.count moved.total

pub returns-clause-at_most : goal.returns-clause-at_most
returns-clause-at_most g c =
    let within = grouped_units-le c.args.format.now.digit_grouping c.write_units-count.ensures in
    omega (arith, within, c.group_digits-2.ensures.total, c.if-decimals-eq0.false)
