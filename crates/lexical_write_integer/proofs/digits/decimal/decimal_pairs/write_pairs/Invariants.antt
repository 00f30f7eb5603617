use Rattle.std.proofs.Common.{◌≡◌, ◌+◌, ◌*◌, ◌%◌, ◌^◌, ◌++◌}
use Rattle.lexical_write_integer.specs.Buffer.{WritesDigits}
use Rattle.lexical_write_integer.specs.Carries.{carried}
use Rattle.lexical_write_integer.specs.DecimalTurns.{products}
use Rattle.lexical_write_integer.proofs.digits.decimal.decimal_pairs.write_pairs.Given as goal

-- The digits so far are those before the point if the fraction is moved by that many pairs, and `rest` is the part
-- after the point.
abbrev pub invariant-loop : goal.invariant-loop
invariant-loop l = record {
  following : l.rest % 2 ^ 32 ≡ l.fraction * 100 ^ l.counter % 2 ^ 32;
  digits : WritesDigits 10 (carried l.fraction l.counter) l.initial.buffer l.buffer l.count;
  notes : l.turns ≡ l.fn.turns ++ products l.fraction l.counter;
  count : l.count ≡ l.initial.count + 2 * l.counter;
}
