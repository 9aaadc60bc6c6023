-- The laws of the definitions of specs/.
pub mod Cells
pub mod Given
pub mod Outcomes
pub mod Tabled
pub mod Made
pub mod Accepted
pub mod Range
