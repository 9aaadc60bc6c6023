-- The box-error code (source document 004, in document 01's form), as mathematics over functions: in the document's order.
pub mod Code
pub mod Condition
pub mod Syndrome
pub mod Run
pub mod Burst
pub mod Check
pub mod Reader
