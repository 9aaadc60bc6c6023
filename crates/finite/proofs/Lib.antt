-- The laws of truth values and of the definitions of specs/.
pub mod Truth
pub mod Search
pub mod Digits
pub mod Count
