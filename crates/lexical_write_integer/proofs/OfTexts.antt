-- Texts: their length, characters and order, and the same text as a function or as `{}` computes it.
pub mod Signs
pub mod SignedTexts
pub mod Required
pub mod SizeBounds
pub mod Grouping
pub mod Ascii
pub mod Orders
pub mod Comparisons
pub mod ComputedTexts
pub mod PrintedTexts
pub mod ReadTexts
pub mod Rows
pub mod Separators
-- texts in a row
pub mod Sequences
pub mod Joins
pub mod Appended
