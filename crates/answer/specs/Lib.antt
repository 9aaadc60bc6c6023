-- The answer of a call as one 64-bit number.
pub mod Answer
