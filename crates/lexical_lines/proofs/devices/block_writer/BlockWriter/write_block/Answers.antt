use Rattle.lexical_lines.specs.Source.{failures_of}
use Rattle.std.proofs.lemmas.Grind.{common_steps}
use Rattle.std.proofs.Common.{◌≡◌, ℕ, ◌+◌, ◌-◌, ◌≤◌, List, ◌++◌, length, take, drop, sym, ap, ◌∙◌, length-take}
use Rattle.std.proofs.Common.{take-append-drop, append_assoc, []}
use Rattle.std.proofs.Common.{arith}
use Rattle.std.specs.List.{copy_within}
use Rattle.std.proofs.lemmas.List.{append-nil, drop-take}
use Rattle.lexical_lines.specs.BlockWriter.{taken}
use Rattle.lexical_lines.proofs.devices.block_writer.BlockWriter.write_block.Goals as goal

-- the bytes after the first ones are moved to the start
take-copy_within : (xs : List ℕ) (count end : ℕ) → count ≤ end → end ≤ length xs
    → take (end - count) (copy_within xs count end 0) ≡ drop count (take end xs)
take-copy_within xs count end ordered within =
    let left = end - count in
    let parts : end ≡ count + left = omega arith in
    grind (arith, common_steps, drop-take)

-- the block held the bytes that were written, followed by those that it holds after the move
parted : (xs ys : List ℕ) (count end : ℕ) → count ≤ end → end ≤ length xs → ys ≡ copy_within xs count end 0
    → take end xs ≡ take count (take end xs) ++ take (end - count) ys
parted xs ys count end ordered within moved = grind (arith, take-copy_within, take-append-drop)

-- each byte that was taken is still taken: it was written, or it is in the block
same : (written after xs ys : List ℕ) (count end : ℕ) → after ≡ written ++ take count (take end xs)
    → take end xs ≡ take count (take end xs) ++ take (end - count) ys
    → after ++ take (end - count) ys ≡ written ++ take end xs
same written after xs ys count end passed parts = grind (arith, append_assoc)

pub returns-clause-taken : goal.returns-clause-taken
returns-clause-taken g c =
    let w = c.self.inside in
    let count = c.put_all-count.result.0 in
    let bound : count ≤ w.end = grind (
      arith,
      c.put_all-count.ensures.ok,
      c.put_all-count.ensures.err,
      length-take w.end w.block,
    ) in
    let parts = parted w.block c.copy_within.new.self count w.end bound (omega (arith, c.self.invariant.1, c.self.told))
    c.copy_within.ensures.after in
    same (g.K.ByteSink.taken w.sink) _ w.block c.copy_within.new.self count w.end c.put_all-count.ensures.taken parts
    ∙ ap taken c.self.view_is

pub returns-clause-kept : goal.returns-clause-kept
returns-clause-kept g c =
    let wrote = c.put_all-count.ensures in
    let puts = g.met.K.BlockSink.keeps_puts _ _ wrote.kept in
    record {
      more = [];
      sent = puts.more;
      longer = returns-clause-taken g c ∙ sym (append-nil _);
      passed = rw (sym c.self.view_is) (record { written = puts.taken; contents = puts.contents });
    }

-- the check finds this proof by itself, but with an answer the refusal of a mistake says what is wrong
pub returns-clause-failures : goal.returns-clause-failures
returns-clause-failures g c =
    let wrote = c.put_all-count in
    wrote.ensures.failures ∙ ap (λ w. w.failures + failures_of wrote.result.1) c.self.view_is
