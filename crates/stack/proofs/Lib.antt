-- The laws of the definitions of specs/.
pub mod Order
pub mod Passing
pub mod Numbers
pub mod Steps
pub mod Places
pub mod Each
pub mod Alone
