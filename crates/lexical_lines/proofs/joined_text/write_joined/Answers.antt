use Rattle.std.proofs.Common.{◌≡◌, ℕ, ◌+◌, ◌*◌, ◌<◌, ◌≤◌, ◌++◌, [], ◌∷◌, length, take, sym, ap, ◌∙◌, arith}
use Rattle.std.proofs.Math.Nat.{mul-le-mul_right}
use Rattle.std.proofs.lemmas.List.{length-take, length-take-le, take_all, take_more}
use Rattle.lexical_num.specs.Size.{size_in}
use Rattle.lexical_write_integer.specs.Sequence.{AreJoined}
use Rattle.lexical_write_integer.specs.Text.{IsText}
use Rattle.lexical_write_integer.proofs.Buffers.Prefixes.{Writes-after}
use Rattle.lexical_lines.proofs.Joins.{Ready, Ready-one, Ready-push}
use Rattle.lexical_lines.proofs.joined_text.write_joined.Goals as goal
use Rattle.lexical_lines.proofs.joined_text.write_joined.Goals.{then-index-gt0, else-index-gt0}

pub loop-index-preserved : goal.loop-index-preserved
loop-index-preserved g c =
    let values = c.args.values.now in
    let format = c.args.format.now in
    let index = c.loop-index.index in
    let x = c.index-values-index.result in
    let IsOf = λ (y : g.row.T.Denot). IsText (g.T.LexicalInteger.number y) format in
    let inside : index < length values = omega (arith, c.loop-index-test.true) in
    let size = size_in g.T.FormattedSize.FORMATTED_SIZE g.T.FormattedSize.FORMATTED_SIZE_DECIMAL format in
    let room : c.loop-index.count < length c.args.buffer.now =
    omega (arith, c.requires, c.loop-index.invariant.within, mul-le-mul_right (size + 1) inside) in
    let before = take index values in
    let many : length before ≡ index = length-take-le index values (omega arith) in
    let next : take (index + 1) values ≡ before ++ x ∷ [] =
    take_more values index x inside ∙ ap (λ y. before ++ y ∷ []) (sym c.index-values-index.is) in
    let was = c.loop-index.invariant.written in
    let ready : Ready (IsOf x) (AreJoined IsOf (c.args.separator ∷ []) (before ++ x ∷ []))
    c.args.buffer.now c.if-index-gt0.buffer c.if-index-gt0.count =
    elim c.if-index-gt0.branch [
      | then-index-gt0 w ↦
          rw (w.buffer-is, w.count-is) (Ready-push IsOf c.args.separator before x c.args.buffer.now c.loop-index.buffer
          c.loop-index.count (omega (arith, many, w.if-index-gt0.true)) room was)
      | else-index-gt0 w ↦
          rw (w.buffer-is, w.count-is) (Ready-one IsOf c.args.separator before x c.args.buffer.now c.loop-index.buffer
          c.loop-index.count (omega (arith, many, w.if-index-gt0.false)) was)
    ] in
    let within : c.if-index-gt0.count ≤ index * (size + 1) =
    grind (
      arith,
      c.if-index-gt0.branch,
      c.loop-index.invariant.within,
      (λ (some : 1 ≤ index). mul-le-mul_right (size + 1) some),
    ) in
    let text = c.write_lexical_with_options-count.ensures.text in
    record {
      written = rw next (Writes-after ready.text _ _ _ _ _ _ ready.counted ready.front ready.whole text);
      within = omega (arith, within, text.count, text.front.fits, length-take {A = ℕ}, c.loop-index.invariant.within);
    }

pub returns-clause-text : goal.returns-clause-text
returns-clause-text g c = rw (take_all c.loop-index.index c.args.values.now c.loop-index-test.false)
    at c.loop-index.invariant.written
