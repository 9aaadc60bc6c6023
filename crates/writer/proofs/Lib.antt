-- The laws of the definitions of specs/.
pub mod Solved
pub mod Balanced
pub mod Outcomes
