-- The laws of the definitions of specs/.
pub mod Outcomes
pub mod Transposed
