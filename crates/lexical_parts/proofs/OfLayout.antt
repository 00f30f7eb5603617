-- Texts in a row, in columns, and at an index of a buffer.
-- texts that are padded with spaces to the width of a column
pub mod Columns
-- texts of the elements of a list, which grow by one element at their end
pub mod Lists
-- the room of the elements of a list
pub mod Rooms
-- bytes inserted into a text
pub mod Inserts
-- what equal texts in a row have in common
pub mod Splits
-- texts of equal widths with separators between them
pub mod EqualWidths
-- texts at an index of a buffer
pub mod TextsAtIndex
-- parts of a buffer that a later write leaves as they are
pub mod Kept
