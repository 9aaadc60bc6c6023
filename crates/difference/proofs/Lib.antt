-- The laws of the definitions of specs/.
pub mod Rows
pub mod Outcomes
pub mod Parts
