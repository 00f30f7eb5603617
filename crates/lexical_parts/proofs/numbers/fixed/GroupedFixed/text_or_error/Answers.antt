use Rattle.std.proofs.Common.{refl, arith}
use Rattle.lexical_num.proofs.Magnitudes.{magnitude-small}
use Rattle.lexical_parts.proofs.OfNumbers.FixedTexts.{fixed_is}
use Rattle.lexical_parts.proofs.OfNumbers.GroupedUnits.{grouped_fixed_room-le_39}
use Rattle.lexical_parts.proofs.numbers.fixed.GroupedFixed.text_or_error.Goals as goal

pub to_str-text-requires-clause-room : goal.to_str-text-requires-clause-room
to_str-text-requires-clause-room g c =
    let most = grouped_fixed_room-le_39 _ c.args.self.2.now.digit_grouping c.args.self.1
    g.met.T.LexicalInteger.bit_width g.met.T.LexicalInteger.decimal_width
    (omega (arith, c.if-self-gt19.false)) in
    omega (arith, most, c.told-buffer)

pub returns-clause-ok : goal.returns-clause-ok
returns-clause-ok g c = (λ ok. omega (arith, c.if-self-gt19.false), λ few. refl)

pub returns-clause-text : goal.returns-clause-text
returns-clause-text g c =
    let number = g.T.LexicalInteger.number c.args.self.0 in
    let small = magnitude-small _ g.met.T.LexicalInteger.bit_width number c.in_range.ensures.at_least
    c.in_range.ensures.at_most in
    fixed_is c.args.self.2.now.digit_grouping c.args.self.1 number _ small c.to_str-text.ensures.text
