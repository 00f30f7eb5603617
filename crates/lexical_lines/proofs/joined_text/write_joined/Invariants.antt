use Rattle.std.proofs.Common.{◌+◌, ◌-◌, ◌*◌, ◌≤◌, [], ◌∷◌, take}
use Rattle.lexical_num.specs.Size.{size_in}
use Rattle.lexical_write_integer.specs.Buffer.{Writes}
use Rattle.lexical_write_integer.specs.Sequence.{AreJoined}
use Rattle.lexical_write_integer.specs.Text.{IsText}
use Rattle.lexical_lines.proofs.joined_text.write_joined.Given as goal

abbrev pub invariant-loop-index : goal.invariant-loop-index
invariant-loop-index g l = record {
  written : Writes (AreJoined (λ x. IsText (g.T.LexicalInteger.number x) l.format) (l.separator ∷ [])
      (take l.index l.values))
      l.initial.buffer l.buffer l.count;
  within : l.count ≤ l.index * (size_in g.T.FormattedSize.FORMATTED_SIZE g.T.FormattedSize.FORMATTED_SIZE_DECIMAL
      l.format + 1) - 1;
}
