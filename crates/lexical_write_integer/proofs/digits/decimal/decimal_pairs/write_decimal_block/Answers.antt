use Rattle.std.proofs.Common.{◌≡◌, suc, ◌+◌, ◌-◌, ◌/◌, ◌%◌, ◌^◌, ◌<◌, length, set, sym, ap, subst, ◌∙◌, arith}
use Rattle.std.proofs.Math.Nat.{mod-eq_of_lt, one-le-pow, pow-suc}
use Rattle.std.proofs.lemmas.Nat.{div_below}
use Rattle.lexical_write_integer.specs.Buffer.{WritesBlock}
use Rattle.lexical_write_integer.proofs.Buffers.Blocks.{WritesBlock-next, WritesBlock-one, WritesBlock-whole}
use Rattle.lexical_write_integer.proofs.OfDigits.Powers.{div-pow_more}
use Rattle.lexical_write_integer.proofs.OfTexts.PrintedTexts.{digit_char-decimal}
use Rattle.lexical_write_integer.proofs.digits.decimal.decimal_pairs.write_decimal_block.Goals as goal

pub loop-at-preserved : goal.loop-at-preserved
loop-at-preserved c =
    let l = c.loop-at in
    let n = c.args.number in
    let taken = length c.args.buffer.now - l.at in
    let turn : 2 + taken ≡ length c.args.buffer.now - (l.at - 2) =
    omega (arith, l.invariant.within, c.loop-at-test.true) in
    let place : l.at ≡ l.at - 2 + 2 = omega (arith, c.loop-at-test.true) in
    let last = subst (λ k. WritesBlock 10 taken (n % 10 ^ taken) k c.args.buffer.now l.buffer)
    place l.invariant.block in
    let first = subst (λ k. WritesBlock 10 2 (k % 100) (l.at - 2) l.buffer c.write.new.buffer)
    l.invariant.rest c.write.ensures in
    record {
      block = subst (λ k. WritesBlock 10 k (n % 10 ^ k) (l.at - 2) c.args.buffer.now c.write.new.buffer) turn
          (WritesBlock-next {step = 2} n (omega arith) last first);
      rest = ap (λ k. k / 100) l.invariant.rest ∙ div-pow_more 10 n 2 taken ∙ ap (λ k. n / 10 ^ k) turn;
      within = omega (arith, l.invariant.within);
      room = c.write.auto.buffer ∙ l.invariant.room;
    }

-- one digit is left
pub returns-then-at-eq1 : goal.returns-then-at-eq1
returns-then-at-eq1 c =
    let l = c.loop-at in
    let n = c.args.number in
    let taken = length c.args.buffer.now - l.at in
    let long : length c.args.buffer.now ≡ 1 + taken = omega (arith, l.invariant.within, c.if-at-eq1.true) in
    let next : length c.args.buffer.now ≡ suc taken = omega (arith, long) in
    let fits : n < 10 ^ (suc taken) = subst (λ k. n < 10 ^ k) next c.requires in
    let some : 0 < 10 ^ taken = omega (arith, one-le-pow taken 10 (omega arith)) in
    let small : l.left < 10 = subst (λ k. k < 10) (sym l.invariant.rest)
    (div_below n (10 ^ taken) 10 some (omega (arith, fits, pow-suc 10 taken))) in
    let last = subst (λ k. WritesBlock 10 taken (n % 10 ^ taken) k c.args.buffer.now l.buffer)
    c.if-at-eq1.true l.invariant.block in
    let first = WritesBlock-one 10 l.left 0 l.buffer small (omega (arith, l.invariant.room, long)) in
    subst (λ k. WritesBlock 10 k n 0 c.args.buffer.now (set l.buffer 0 (48 + l.left))) (sym long)
    (WritesBlock-whole {n = n} l.invariant.rest last (rw (digit_char-decimal l.left small) at first))

pub returns-else-at-eq1 : goal.returns-else-at-eq1
returns-else-at-eq1 c = grind (arith, mod-eq_of_lt)
