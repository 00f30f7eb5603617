use Rattle.std.proofs.Common.{sym, arith}
use Rattle.std.proofs.lemmas.List.{length-take-le}
use Rattle.lexical_lines.proofs.AnswerTexts.{Writes-newline}
use Rattle.lexical_write_integer.proofs.Buffers.Prefixes.{Writes-part}
use Rattle.lexical_lines.proofs.answer.write_line.Goals as goal

pub slice_bounds-text_bytes-end-2 : goal.slice_bounds-text_bytes-end-2
slice_bounds-text_bytes-end-2 g c = sym (length-take-le 128 c.args.buffer.now (omega (arith, c.requires)))

pub write_text-end-requires : goal.write_text-end-requires
write_text-end-requires g c =
    omega (
      arith,
      c.size_suffices.ensures.size,
      c.size_suffices.ensures.buffer,
      length-take-le 128 c.args.buffer.now (omega (arith, c.requires)),
    )

pub returns : goal.returns
returns g c =
    let written = Writes-part c.args.buffer.now c.write_text-end.new.buffer 128 _ c.write_text-end.ensures.text in
    grind (arith, Writes-newline)
