-- The reader's answer as 64 bits.
pub mod Packed
