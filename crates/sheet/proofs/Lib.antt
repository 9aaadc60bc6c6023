-- The answers of the calls fit the fields of the packed answer.
pub mod Ranges
