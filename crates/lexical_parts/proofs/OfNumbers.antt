-- The texts of parts that are numbers.
-- how many digits a number of a type has
pub mod Widths
-- the room of a number in a format
pub mod FormattedRooms
-- numbers of units, with whole parts in groups
pub mod GroupedUnits
-- numbers of units without zeros at the end of their fraction
pub mod TrimmedUnits
-- digits without the zeros at their end
pub mod TrailingZeros
-- digits with a point
pub mod Points
-- numbers of units as the prover computes their texts
pub mod FixedTexts
-- numbers of units without their point, which std reads
pub mod FixedReads
-- the bytes of numbers of units
pub mod FixedBytes
-- numbers with zeros after their sign, which std reads
pub mod ZeroReads
-- the first digit with a point, and an exponent
pub mod Scientifics
-- numbers in scientific notation as the prover computes their text
pub mod ScientificTexts
-- numbers in scientific notation with one text
pub mod EqualScientifics
-- bytes in radix 16 as the prover computes their text
pub mod HexTexts
-- lists of bytes in digits of one width
pub mod EqualBytes
