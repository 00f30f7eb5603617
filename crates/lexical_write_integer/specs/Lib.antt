-- what a writer leaves in its buffer, and what it returns of it
pub mod Buffer
pub mod Lending
-- the digits of a number, without a sign
pub mod Numeral
pub mod Padded
-- how many there are
pub mod DigitCount
pub mod Logarithm
pub mod PowersOfTen
-- how they are written, in radix 10 and in any radix
pub mod Carries
pub mod DecimalTurns
pub mod LoopTurns
pub mod Table
-- the texts of numbers: a sign, and then the digits in the groups of the format
pub mod Groups
pub mod Text
pub mod ZerosAfterSign
pub mod Computed
pub mod InCommon
pub mod Lowercase
pub mod Order
pub mod Sequence
pub mod Read
