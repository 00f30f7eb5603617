pub mod OfDigits
pub mod OfTexts
-- what is written in a buffer
pub mod Buffers
-- steps of the proofs by hand
pub mod Reborrows
pub mod HandedFronts
-- the path that other crates cite
pub use Rattle.lexical_write_integer.proofs.OfTexts.Sequences
