use Rattle.std.specs.Fmt.{HasWrittenStyled, IsFlush, fill_text, formatter_spec}
use Rattle.lexical_parts.proofs.formatting.shown.format_fill.Given as goal

-- some copies are written
abbrev pub invariant-loop : goal.invariant-loop
invariant-loop g l = IsFlush l.fn.f → HasWrittenStyled g.W.Write.write_str_gives l.fn.f
    (fill_text (formatter_spec l.fn.f) l.counter) l.f
