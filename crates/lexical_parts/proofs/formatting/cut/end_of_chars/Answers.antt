use Rattle.std.proofs.Common.{◌++◌, ◌∙◌, sym, ap, true, false, arith, append-nil, drop, take, drop_of_length-le}
use Rattle.std.proofs.Math.Seq.{take-length, take_all}
use Rattle.std.proofs.Padding.{char_count-drop, char_count-drop_all, take_chars-nil, take_chars_stops, take_chars_keeps}
use Rattle.std.specs.Fmt.{take_chars}
use Rattle.lexical_parts.proofs.formatting.cut.end_of_chars.Goals as goal
use Rattle.lexical_parts.proofs.formatting.cut.end_of_chars.Goals.{then-is_char_start+else-left-eq0, else-is_char_start}

pub returns-then-left-eq0-clause-end : goal.returns-then-left-eq0-clause-end
returns-then-left-eq0-clause-end c =
    let s = c.args.text.now in
    let i = c.loop-index.index in
    sym (take_chars_stops s i c.loop-index-test.true (sym c.is_char_start.ensures ∙ c.if-is_char_start.true))
    ∙ ap (λ n. take i s ++ take_chars n (drop i s)) (sym c.if-left-eq0.true) ∙ c.loop-index.invariant.cut

pub returns-then-left-eq0-clause-left : goal.returns-then-left-eq0-clause-left
returns-then-left-eq0-clause-left c = omega (arith, c.loop-index.invariant.counted, c.if-left-eq0.true)

pub loop-index-preserved : goal.loop-index-preserved
loop-index-preserved c =
    let s = c.args.text.now in
    let i = c.loop-index.index in
    let keeps = take_chars_keeps s i c.loop-index.left c.if-is_char_start.left in
    let counts = char_count-drop s i c.loop-index-test.true in
    let test = sym c.is_char_start.ensures in
    elim c.if-is_char_start.branch [
      | then-is_char_start+else-left-eq0 w ↦
          let starts = test ∙ w.if-is_char_start.true in
          record {
            cut = keeps true c.loop-index-test.true starts (omega arith) ∙ c.loop-index.invariant.cut;
            counted = let one = rw starts at counts in omega (arith, one, c.loop-index.invariant.counted);
          }
      | else-is_char_start w ↦
          let starts = test ∙ w.if-is_char_start.false in
          record {
            cut = keeps false c.loop-index-test.true starts (omega arith) ∙ c.loop-index.invariant.cut;
            counted = let none = rw starts at counts in omega (arith, none, c.loop-index.invariant.counted);
          }
    ]

pub returns : goal.returns
returns c =
    let s = c.args.text.now in
    let past = c.loop-index-test.false in
    record {
      end = take-length s ∙ sym (append-nil s)
          ∙ rw (take_all c.loop-index.index s past, drop_of_length-le s past, take_chars-nil)
          at c.loop-index.invariant.cut;
      left = omega (arith, c.loop-index.invariant.counted, char_count-drop_all s c.loop-index.index past);
    }
