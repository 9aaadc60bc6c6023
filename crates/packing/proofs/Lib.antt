-- The laws of the definitions of specs/.
pub mod Packed
