-- The read of a stack of sheets.
pub mod ReadStack
pub mod Step
