use Rattle.std.proofs.Common.{◌+◌, get_or, length, arith}
use Rattle.std.proofs.lemmas.List.{get_or_default}
use Rattle.lexical_write_integer.specs.Padded.{IsPadded}
use Rattle.lexical_parts.proofs.OfLayout.Lists.{written_joined}
use Rattle.lexical_parts.proofs.OfLayout.Rooms.{leads_at, joined_room-more, joined_room-take-le, two_each}
use Rattle.lexical_parts.proofs.OfTexts.Utf8Texts.{joined_is_utf8, padded_is_utf8}
use Rattle.lexical_parts.proofs.texts.hex_bytes.HexBytesPart.write_to.Goals as goal

pub write_next-count-requires-clause-room : goal.write_next-count-requires-clause-room
write_next-count-requires-clause-room c =
    let bytes = c.args.self.0.now in
    let separator = c.args.self.1.now in
    let index = c.loop-index.index in
    let item = get_or_default bytes index 0 (get_or bytes index 0) c.loop-index-test.true in
    let more = joined_room-more (λ _. 2) separator _ bytes c.loop-index-test.true item (leads_at separator index) in
    let fits = joined_room-take-le (λ _. 2) (length separator) bytes (index + 1) (omega arith) in
    omega (arith, more, fits, two_each bytes, c.requires.room, c.loop-index.invariant.within, c.loop-index.auto.buffer)

pub loop-index-preserved : goal.loop-index-preserved
loop-index-preserved c =
    let bytes = c.args.self.0.now in
    let separator = c.args.self.1.now in
    let index = c.loop-index.index in
    let item = get_or_default bytes index 0 (get_or bytes index 0) c.loop-index-test.true in
    let leads = leads_at separator index in
    let more = joined_room-more (λ _. 2) separator _ bytes c.loop-index-test.true item leads in
    record {
      written = written_joined (IsPadded 16 2) separator _ bytes _ c.loop-index-test.true item leads
          c.loop-index.invariant.written
          c.write_next-count.ensures.text;
      within = omega (arith, more, c.loop-index.invariant.within, c.write_next-count.ensures.at_most);
    }

pub returns-clause-at_most : goal.returns-clause-at_most
returns-clause-at_most c = grind (arith, joined_room-take-le, two_each)

pub returns-clause-utf8 : goal.returns-clause-utf8
returns-clause-utf8 c = λ _. joined_is_utf8 (IsPadded 16 2) _ _ (λ k d inside. padded_is_utf8 16 2 _ (omega arith))
    c.str_is_utf8.ensures
