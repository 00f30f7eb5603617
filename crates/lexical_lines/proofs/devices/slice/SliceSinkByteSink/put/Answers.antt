use Rattle.std.proofs.Common.{ap, Ok, ◌≡◌, ◌⊎◌, ℕ, List, length, min, length-drop, take-append-drop, arith}
use Rattle.lexical_lines.proofs.Slices.{put-rest}
use Rattle.std.proofs.lemmas.List.{drop_all, length-take-le}
use Rattle.lexical_lines.specs.Sink.{put_failures}
use Rattle.lexical_lines.proofs.devices.slice.SliceSinkByteSink.put.Goals as goal

-- a call that takes what fits has failed only if there is no room
no_failure : (count room : ℕ) (bytes : List ℕ) → count ≡ min (length bytes) room
    → (put_failures {E = ℕ} (Ok count) bytes ≡ 0) ⊎ (room ≡ 0)
no_failure count room bytes is = grind arith

pub returns-clause-kept : goal.returns-clause-kept
returns-clause-kept c = grind (arith, put-rest, length-take-le, take-append-drop, drop_all)

-- the check finds this proof by itself, but with an answer the refusal of a mistake says what is wrong
pub returns-clause-exact : goal.returns-clause-exact
returns-clause-exact c =
    let old = c.args.self.now in
    ap Ok (omega (arith, c.min-count.ensures, length-drop old.count old.buffer.now))
