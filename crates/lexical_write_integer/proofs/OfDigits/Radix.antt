-- The loops that divide by a power of the radix, and the tables of digit pairs.
pub mod BinaryWords
pub mod EightBits
pub mod FirstDigits
pub mod TwoDigits
pub mod Loops
pub mod TablePairs
