-- The laws of the definitions of specs/.
pub mod Mended
pub mod Decided
