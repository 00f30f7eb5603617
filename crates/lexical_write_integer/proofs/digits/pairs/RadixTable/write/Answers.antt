use Rattle.std.proofs.Common.{◌≡◌, ◌+◌, ◌-◌, take, drop, ◌∙◌, arith, length-drop}
use Rattle.std.proofs.lemmas.List.{length-take-le}
use Rattle.lexical_write_integer.proofs.Buffers.Blocks.{WritesBlock-copied}
use Rattle.lexical_write_integer.proofs.OfDigits.Numerals.{IsBlockOf-pair}
use Rattle.lexical_write_integer.proofs.OfDigits.Radix.TablePairs.{length-table, characters-pair, set-pair}
use Rattle.lexical_write_integer.proofs.digits.pairs.RadixTable.write.Goals as goal

-- the check finds this proof by itself, but with an answer the refusal of a mistake says what is wrong
pub overflow_mul-index : goal.overflow_mul-index
overflow_mul-index g c = omega arith

pub slice_bounds-pair-end : goal.slice_bounds-pair-end
slice_bounds-pair-end g c = omega (
  arith,
  c.requires.number,
  length-table g.row.R c.args.self.pairs.now c.args.self.begins,
)

pub returns : goal.returns
returns g c =
    let n = c.args.number in
    let count : c.args.at + 2 - c.args.at ≡ 2 = omega arith in
    let part = take (c.args.at + 2 - c.args.at) (drop c.args.at c.args.buffer.now) in
    let long = length-take-le (c.args.at + 2 - c.args.at) (drop c.args.at c.args.buffer.now)
    (omega (arith, length-drop c.args.at c.args.buffer.now)) in
    let pair = characters-pair g.row.R n c.args.self.pairs.now c.args.self.begins c.requires.number in
    WritesBlock-copied c.args.at (IsBlockOf-pair g.row.R n (omega (arith, c.args.self.is_radix)) c.requires.number)
    (rw pair (set-pair part _ _ (long ∙ count))) c.requires.room
