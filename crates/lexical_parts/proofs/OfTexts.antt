-- Texts of any kind: UTF-8, lengths, and texts that are changed.
-- texts of parts that are UTF-8
pub mod Utf8Texts
-- changed texts of parts that are UTF-8
pub mod Utf8Changes
-- texts of one kind that are also of another kind
pub mod Conversions
-- parts of which the prover computes the text
pub mod OnlyTexts
-- the lengths of texts
pub mod Lengths
-- the first characters of texts in a row
pub mod CutTexts
-- zeros after a sign
pub mod ZeroPaddings
-- what each file of parts names
pub mod Parts
