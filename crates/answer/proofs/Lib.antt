-- The laws of the packed answer.
pub mod Fields
