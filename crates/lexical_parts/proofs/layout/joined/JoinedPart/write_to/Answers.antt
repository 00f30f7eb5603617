use Rattle.std.proofs.Common.{◌+◌, length, arith}
use Rattle.std.proofs.lemmas.List.{take_all}
use Rattle.std.proofs.lemmas.List.Elements.{All-more}
use Rattle.lexical_parts.specs.Utf8.{AreUtf8}
use Rattle.lexical_parts.proofs.OfLayout.Lists.{written_joined}
use Rattle.lexical_parts.proofs.OfLayout.Rooms.{leads_at, joined_room-more, joined_room-take-le}
use Rattle.lexical_parts.proofs.OfTexts.Utf8Texts.{joined_is_utf8}
use Rattle.lexical_parts.proofs.layout.joined.JoinedPart.write_to.Goals as goal

pub write_next-count-requires-clause-room : goal.write_next-count-requires-clause-room
write_next-count-requires-clause-room g c =
    let parts = c.args.self.0.now in
    let separator = c.args.self.1.now in
    let leads = leads_at separator c.loop-index.index in
    let more = joined_room-more g.P.Part.room separator _ parts c.loop-index-test.true c.part-item.is leads in
    let fits = joined_room-take-le g.P.Part.room (length separator) parts (c.loop-index.index + 1) (omega arith) in
    omega (arith, more, fits, c.requires.room, c.loop-index.invariant.within, c.loop-index.auto.buffer)

pub loop-index-preserved : goal.loop-index-preserved
loop-index-preserved g c =
    let parts = c.args.self.0.now in
    let separator = c.args.self.1.now in
    let leads = leads_at separator c.loop-index.index in
    let more = joined_room-more g.P.Part.room separator _ parts c.loop-index-test.true c.part-item.is leads in
    record {
      written = written_joined g.P.Part.is_text separator _ _ _ c.loop-index-test.true c.part-item.is leads
          c.loop-index.invariant.written
          c.write_next-count.ensures.text;
      within = omega (arith, more, c.loop-index.invariant.within, c.write_next-count.ensures.at_most);
      utf8 = All-more (λ part. g.P.Part.is_utf8 part → AreUtf8 (g.P.Part.is_text part))
          parts _ c.part-item.result c.loop-index-test.true
          c.loop-index.invariant.utf8 (rw (← c.part-item.is) c.write_next-count.ensures.utf8);
    }

pub returns-clause-utf8 : goal.returns-clause-utf8
returns-clause-utf8 g c =
    let each = rw (take_all c.loop-index.index c.args.self.0.now c.loop-index-test.false)
    at c.loop-index.invariant.utf8 in
    λ parts. joined_is_utf8 g.P.Part.is_text _ _ (λ k d inside. each k d inside (parts k d inside))
    c.str_is_utf8.ensures
