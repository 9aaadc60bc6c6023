-- What stands in the bytes of a plan and of a sheet.
pub mod Number
pub mod Joined
pub mod Cells
pub mod Stored
pub mod Differ
