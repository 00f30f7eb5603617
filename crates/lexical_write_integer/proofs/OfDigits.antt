-- The digits of a number: their value, and their numeral.
pub mod Powers
pub mod DigitValues
pub mod Numerals
pub mod PaddedDigits
pub mod Count
pub mod Decimal
pub mod Radix
