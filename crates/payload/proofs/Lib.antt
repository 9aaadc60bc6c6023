-- The laws of the definitions of specs/.
pub mod Size
pub mod Run
pub mod Progress
pub mod CellBit
