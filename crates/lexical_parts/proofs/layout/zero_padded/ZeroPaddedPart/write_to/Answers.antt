use Rattle.std.proofs.lemmas.List.{length-drop, length-take}
use Rattle.std.proofs.Common.{ℕ, arith}
use Rattle.lexical_parts.proofs.OfTexts.ZeroPaddings.{written_zero_padded}
use Rattle.lexical_parts.proofs.layout.zero_padded.ZeroPaddedPart.write_to.Goals as goal

pub returns-clause-text : goal.returns-clause-text
returns-clause-text g c =
    written_zero_padded _ c.write_to-count.ensures.text c.length_of_sign-sign.ensures.sign
    c.length_of_sign-sign.ensures.within
    c.saturating_sub-zeros.ensures
    (omega (
      arith,
      c.length_of_sign-sign.ensures.within,
      c.write_to-count.auto.buffer,
      c.write_to-count.ensures.at_most,
      c.requires.room,
      length-take {A = ℕ},
      length-drop {A = ℕ},
    ))
    c.insert_fill.ensures
