use Rattle.std.proofs.Common.{length, ◌-◌, ◌≤◌, arith}
use Rattle.lexical_parts.proofs.OfLayout.TextsAtIndex.{Writes-at, framed}
use Rattle.lexical_parts.proofs.layout.with_length.write_with_length.Goals as goal

pub returns-clause-text : goal.returns-clause-text
returns-clause-text g c =
    let old = c.args.buffer.now in
    let inside : c.args.width ≤ length old = omega (arith, c.requires.room) in
    let text = Writes-at c.args.width (length old - c.args.width)
    old c.write_to-count.new.buffer c.write_to-count.result inside c.write_to-count.ensures.text in
    framed c.args.width old _ _ inside text c.write_padded.new.buffer _ c.write_padded.ensures.digits
    c.write_padded.ensures.width
