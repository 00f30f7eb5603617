-- Pairs of decimal digits, and the fractions that carry them.
pub mod Fractions
pub mod PairBlocks
pub mod FirstPairs
