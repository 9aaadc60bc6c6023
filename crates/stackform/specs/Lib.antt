-- The bytes of a stack of sheets, and parts of a string of bytes.
pub mod Stack
pub mod Parts
