use Rattle.std.proofs.Common.{◌≡◌, ◌^◌, ◌<◌, take}
use Rattle.std.specs.List.{All}
use Rattle.lexical_write_integer.specs.Numeral.{value_of}
use Rattle.lexical_lines.specs.Decimal.{IsDigitByte, digits_in}
use Rattle.lexical_lines.proofs.request.decimal_parser.parse_short.Given as goal

abbrev pub invariant-loop-byte : goal.invariant-loop-byte
invariant-loop-byte l = record {
  digits : All IsDigitByte (take l.byte-index l.text);
  value : l.number ≡ value_of 10 (digits_in (take l.byte-index l.text));
  small : l.number < 10 ^ l.byte-index;
}
