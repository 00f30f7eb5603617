use Rattle.std.proofs.Common.{rules}
use Rattle.lexical_parts.proofs.OfTexts.Conversions.{IsDigits-from_text, then_as, written_as}
use Rattle.lexical_parts.proofs.OfTexts.Utf8Texts.{kinds}
use Rattle.lexical_parts.proofs.numbers.fixed.FixedPart.write_to.Goals as goal

pub returns-clause-text : goal.returns-clause-text
returns-clause-text g c =
    written_as (then_as (λ sign is. is) (then_as IsDigits-from_text (λ fraction is. is))) c.write_to.ensures.text

pub returns-clause-utf8 : goal.returns-clause-utf8
returns-clause-utf8 g c = λ _. search (rules, kinds)
