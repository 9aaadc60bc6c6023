-- The laws of the definitions of specs/.
pub mod Range
pub mod Sets
pub mod Lines
pub mod Equal
pub mod Marks
pub mod Growth
pub mod Windows
