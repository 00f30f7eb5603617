use Rattle.std.proofs.Common.{take}
use Rattle.lexical_write_integer.specs.Padded.{IsPadded}
use Rattle.lexical_write_integer.specs.Sequence.{AreJoined}
use Rattle.lexical_parts.specs.ShownParts.{WritesSome}
use Rattle.lexical_parts.proofs.texts.hex_bytes.HexBytesShow.write_pieces.Given as goal

-- the bytes so far are written
abbrev pub invariant-loop-index : goal.invariant-loop-index
invariant-loop-index g l =
    WritesSome g.O.Write.write_str_gives (AreJoined (IsPadded 16 2) l.self.1.now (take l.index l.self.0.now))
    l.initial.out l.out
