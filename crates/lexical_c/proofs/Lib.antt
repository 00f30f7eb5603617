-- texts without letters
pub mod Letters
-- texts in formats without groups and required signs
pub mod PlainTexts
-- the lengths of texts, and the buffers that are long enough for them
pub mod TextLengths
-- what a function that writes promises, from what it knows of the text
pub mod WrittenTexts
-- zeros that are inserted after the sign of a text
pub mod Endings
-- a change of both ends of a list
pub mod Halves
-- digits in radix 16 in lowercase, which are written from the last
pub mod Hexadecimals
