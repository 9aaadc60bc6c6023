-- The sums of a part of a sheet.
pub mod Gather
pub mod Columns
