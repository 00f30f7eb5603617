use Rattle.std.proofs.lemmas.List.Sums.{sum_by-le}
use Rattle.lexical_parts.proofs.layout.joined.rooms_at_most.Goals as goal

pub returns : goal.returns
returns g c = sum_by-le g.P.Part.room c.args.most c.args.parts.now c.requires
