-- Sets of at most two words of a table (document 02, request m).
pub mod Sets
pub mod Collect
