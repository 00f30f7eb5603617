use Rattle.lexical_write_integer.proofs.OfTexts.Appended.{digits_then_padded}
use Rattle.lexical_write_integer.proofs.laws.appended.digits_then_padded.Goals as goal

pub returns : goal.returns
returns c text is = digits_then_padded _ _ _ _ text c.requires is
