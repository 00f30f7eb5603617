use Rattle.std.proofs.Common.{◌≡◌, ℕ, List, [], ◌++◌, length-take, sym, ap, ◌∙◌, append_assoc, length, arith}
use Rattle.std.proofs.KnownBytes.{Appends-nil}
use Rattle.std.proofs.lemmas.List.{append-nil}
use Rattle.lexical_lines.specs.BlockWriter.{BlockWriting, taken, TakesMore}
use Rattle.lexical_lines.proofs.devices.block_writer.BlockWriterByteSink.put.Goals.{then-self+in_ok-write_block}
use Rattle.lexical_lines.proofs.devices.block_writer.BlockWriterByteSink.put.Goals.{else-self}
use Rattle.lexical_lines.proofs.devices.block_writer.BlockWriterByteSink.put.Goals as goal

-- more bytes are in the block
held_more : (a b : BlockWriting) (more : List ℕ) → b ≡ record a { held = a.held ++ more } → TakesMore a b
held_more a b more is = record {
  more = more;
  sent = [];
  longer = ap taken is ∙ sym (append_assoc a.written a.held more);
  passed = rw is (record { written = sym (append-nil a.written); contents = Appends-nil a.contents });
}

pub returns-clause-kept : goal.returns-clause-kept
returns-clause-kept g c =
    let filled = held_more c.if-self.self c.fill_block.new.self _ c.fill_block.ensures.held in
    grind arith

-- the check finds these proofs by itself, but with an answer the refusal of a mistake says what is wrong

pub returns-in_err-write_block-clause-count : goal.returns-in_err-write_block-clause-count
returns-in_err-write_block-clause-count g c = λ room.
    let w = c.self.inside in
    absurd (omega (
      arith,
      room,
      c.if-self.true,
      length-take w.end w.block,
      ap (λ w. length w.held) c.self.view_is,
      c.self.told,
    ))

pub returns-clause-flushes : goal.returns-clause-flushes
returns-clause-flushes g c =
    let filled = ap (λ w. w.flushes) c.fill_block.ensures.held in
    elim c.if-self.branch [
      | then-self+in_ok-write_block w ↦ filled ∙ ap (λ w. w.flushes) w.self-is ∙ w.write_block.ensures.flushes
      | else-self w ↦ filled ∙ ap (λ w. w.flushes) w.self-is
    ]

pub returns-clause-full_count : goal.returns-clause-full_count
returns-clause-full_count g c = λ full.
    let held = ap (λ s. length s.held) c.self.view_is in
    elim c.if-self.branch [
      | then-self+in_ok-write_block w ↦
          omega (
            arith,
            c.fill_block.ensures.count,
            ap (λ s. length s.held) w.self-is,
            ap length w.in_ok-write_block.ensures.ok,
          )
      | else-self w ↦
          absurd (omega (
            arith,
            full,
            w.if-self.false,
            length-take c.self.inside.end c.self.inside.block,
            held,
            c.self.told,
            c.self.invariant,
          ))
    ]
