-- The promise, proved: the theorems, over what is turned over, written and read.
pub mod Corrupted
pub mod Reading
pub mod Promise
pub mod Layouts
pub mod Trial
pub mod Answer
pub mod House
pub mod CheckCells
pub mod Sums
pub mod Alter
pub mod TwoScans
pub mod Difference
pub mod Stack
pub mod Sound
pub mod PutBack
