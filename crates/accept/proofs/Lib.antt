-- The laws of the definitions of specs/.
pub mod Pairing
pub mod Shift
pub mod RowPairs
pub mod ColumnPairs
pub mod SparseColumns
pub mod SparseShift
pub mod SparseRows
pub mod Remains
pub mod Tables
pub mod JointEntries
pub mod Acceptance
pub mod Range
