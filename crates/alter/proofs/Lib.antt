-- The laws of the definitions of specs/.
pub mod Passing
pub mod Turned
