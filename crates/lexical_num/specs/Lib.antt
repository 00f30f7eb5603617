pub mod BitWidth
pub mod DecimalWidth
pub mod Digit
pub mod Error
pub mod Format
pub mod Range
pub mod Sign
pub mod Size
