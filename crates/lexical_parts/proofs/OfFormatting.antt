-- Parts in format strings.
-- numbers in format strings
pub mod ShownNumbers
-- texts in format strings, one after another
pub mod ShownParts
