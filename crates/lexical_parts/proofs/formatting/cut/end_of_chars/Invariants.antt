use Rattle.std.proofs.Common.{◌≡◌, ◌-◌, ◌++◌, drop, take}
use Rattle.std.specs.Fmt.{char_count, take_chars}
use Rattle.lexical_parts.proofs.formatting.cut.end_of_chars.Given as goal

-- the text before the index is among the first characters
abbrev pub invariant-loop-index : goal.invariant-loop-index
invariant-loop-index l = record {
  cut : take l.index l.text ++ take_chars l.left (drop l.index l.text) ≡ take_chars l.most l.text;
  counted : l.most - char_count l.text ≡ l.left - char_count (drop l.index l.text);
}
