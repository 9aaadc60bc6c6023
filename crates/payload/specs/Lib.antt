-- Data in bytes, and what is done at each cell.
pub mod Packed
pub mod Transfer
pub mod Held
