-- The two sums of a run of rows, as a call leaves them.
pub mod RunSums
