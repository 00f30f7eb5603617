-- The loops that divide a number by a power of the radix: their invariant, and the quotients that they record.
pub mod Divisions
pub mod ShortNumbers
pub mod Notes
