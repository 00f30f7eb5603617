-- Digits in groups: their length, the position of each byte, and how they are written and read.
pub mod Digits
pub mod Positions
pub mod Spread
pub mod Plain
pub mod Texts
