-- What is known of a buffer: the text that it begins with, and blocks of digits anywhere in it.
pub mod Prefixes
pub mod Blocks
pub mod BlocksAfter
pub mod Lowercases
