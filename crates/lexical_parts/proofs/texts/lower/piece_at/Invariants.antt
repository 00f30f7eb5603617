use Rattle.std.proofs.Common.{◌+◌, ◌≤◌, ℕ}
use Rattle.std.specs.Str.{IsCharBoundary}
use Rattle.lexical_parts.proofs.texts.lower.piece_at.Given as goal

-- no character ends in the last places, which were tried
abbrev pub invariant-loop-fewer : goal.invariant-loop-fewer
invariant-loop-fewer l = (last : ℕ) → IsCharBoundary l.text l.start → IsCharBoundary l.text last → l.start ≤ last
    → last ≤ l.start + 64 → last + l.fewer ≤ l.end
