-- lines: separators, lines of an input, and the answers to them
pub mod Splits
pub mod Lines
pub mod Newlines
pub mod AnswerTexts
pub mod UniqueAnswers
-- requests: ranges and names of types, decimal numbers, signs, and the parts of a line
pub mod IntegerTypes
pub mod Decimals
pub mod Signs
pub mod Requests
-- runs: what was appended to a list, and what an answerer has done
pub mod Added
pub mod Runs
-- devices: sources and sinks over slices, readers and writers
pub mod Slices
pub mod Readers
pub mod Writers
-- answers in blocks: what each step does, what is left if a device fails, and what callers know
mod Begun
mod Steps
pub mod Known
-- texts in a buffer, and texts with a separator between them
pub mod Buffers
pub mod Joins
-- the lemmas that a caller's crate names once
pub mod Callers
