pub mod Buffer
pub mod BufferSize
pub mod Ending
pub mod Format
pub mod Length
