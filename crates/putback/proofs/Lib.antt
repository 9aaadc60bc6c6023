-- The laws of the definitions of specs/.
pub mod Told
pub mod Made
pub mod Passing
