-- The table is the list of the characters, which is computed.
use Rattle.std.proofs.Common.{arith}
use Rattle.std.proofs.lemmas.List.FromFn.{get_or-map-range_with_len}
use Rattle.lexical_num.specs.Digit.{digit_char}
use Rattle.lexical_num.proofs.digit.digit_to_char.Goals as goal

pub returns : goal.returns
returns c = get_or-map-range_with_len digit_char 0 36 c.args.digit c.args.digit 0 c.requires (omega arith)
