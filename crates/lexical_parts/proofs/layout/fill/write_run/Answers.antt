use Rattle.std.proofs.Common.{◌≡◌, ◌∙◌, ◌++◌, ◌-◌, ap, arith, length, replicate}
use Rattle.lexical_parts.proofs.layout.fill.write_run.Goals as goal

pub returns : goal.returns
returns g c = λ ok.
    let text = c.to_str.ensures.text in
    let all : c.args.count - 0 ≡ c.args.count = omega arith in
    let run : c.to_str.result.now ≡ replicate c.args.count c.args.byte =
    rw all at (text.whole ∙ ap (λ cell. cell ++ replicate (c.args.count - length cell) c.args.byte) text.is) in
    rw run at (c.write_str.ensures.ok ok)
