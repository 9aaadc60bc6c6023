-- The laws of the definitions of specs/.
pub mod Sequence
pub mod Framing
pub mod Forming
