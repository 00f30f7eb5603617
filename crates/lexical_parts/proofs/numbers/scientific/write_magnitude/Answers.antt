use Rattle.std.proofs.Common.{ℕ, ◌≤◌, arith, rules, w32, w64}
use Rattle.std.proofs.lemmas.Int.{to_z-of_z}
use Rattle.std.proofs.lemmas.List.{length-drop, length-take}
use Rattle.lexical_write_integer.proofs.Buffers.Prefixes.{Writes-is}
use Rattle.lexical_write_integer.proofs.OfTexts.Sequences.{written_then}
use Rattle.lexical_parts.proofs.OfNumbers.Scientifics.{written_scientific}
use Rattle.lexical_num.proofs.Magnitudes.{decimal_width-le_20}
use Rattle.lexical_parts.proofs.OfNumbers.Widths.{few_digits}
use Rattle.lexical_parts.proofs.numbers.scientific.write_magnitude.Goals as goal
use Rattle.lexical_parts.proofs.numbers.scientific.write_magnitude.Goals.{After-count_without_zeros-kept}

pub write_magnitude-count-requires : goal.write_magnitude-count-requires
write_magnitude-count-requires g c =
    decimal_width-le_20 _ g.met.T.LexicalInteger.bit_width g.met.T.LexicalInteger.decimal_width

-- no more digits are left than a number of the type has
kept_few : (g : _) (c : After-count_without_zeros-kept g)
    → c.count_without_zeros-kept.result ≤ g.T.LexicalInteger.DECIMAL_WIDTH
kept_few g c =
    let few = few_digits g.met.T.LexicalInteger.decimal_width c.in_range.ensures.at_least c.in_range.ensures.at_most in
    omega (
      arith,
      few,
      c.write_magnitude-count.ensures.digits.count,
      c.count_without_zeros-kept.ensures.within,
      length-take {A = ℕ},
    )

pub write_with_point-end-requires-clause-room : goal.write_with_point-end-requires-clause-room
write_with_point-end-requires-clause-room g c =
    let few = kept_few g (goal.at.write_with_point-end-requires-clause-room g c).After-count_without_zeros-kept in
    omega (arith, few, length-take {A = ℕ}, c.requires)

pub write_exponent-requires-clause-room : goal.write_exponent-requires-clause-room
write_exponent-requires-clause-room g c =
    let few = kept_few g (goal.at.write_exponent-requires-clause-room g c).After-count_without_zeros-kept in
    let point = c.write_with_point-end in
    omega (arith, few, point.ensures.at_most, point.auto.buffer, length-take {A = ℕ}, length-drop {A = ℕ}, c.requires)

pub returns-clause-at_most : goal.returns-clause-at_most
returns-clause-at_most g c =
    let few = kept_few g (goal.at.returns-clause-at_most g c).After-count_without_zeros-kept in
    omega (arith, few, c.write_with_point-end.ensures.at_most, c.write_exponent.ensures.at_most, length-take {A = ℕ})

pub returns-clause-text : goal.returns-clause-text
returns-clause-text g c =
    let is = Writes-is _ _ _ c.write_magnitude-count.ensures.digits.writes in
    let kept = c.count_without_zeros-kept.ensures in
    let exponent = to_z-of_z w32 c.args.exponent (search rules) in
    let first = to_z-of_z w64 c.first_exponent.result (search rules) in
    written_scientific is kept.some kept.within kept.zeros kept.last
    (rw exponent at (c.first_exponent.ensures.exponent _ is))
    (λ units some. written_then _ _ _ _ _ _ _ _ (c.write_with_point-end.ensures.text units some)
    (rw first at c.write_exponent.ensures.text))
