-- The laws of the definitions of specs/.
pub mod Parts
pub mod Header
