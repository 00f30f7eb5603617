-- lemmas by subject
pub mod OfNumbers
pub mod OfTexts
pub mod OfLayout
pub mod OfFormatting
-- texts that are equal to bytes, for a caller whose contract is an equation of bytes
pub mod Equations
-- the lemmas that a caller's crate names once
pub mod Callers
