-- How many digits a number has, and the tables and logarithms that counts use.
pub mod DigitCounts
pub mod Logarithms
pub mod RadixPowers
pub mod DecimalTables
