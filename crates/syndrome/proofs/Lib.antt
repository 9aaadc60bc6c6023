-- The laws of the definitions of specs/.
pub mod Part
pub mod Two
pub mod Line
pub mod Fed
pub mod Block
