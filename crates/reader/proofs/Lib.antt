-- The laws of the definitions of specs/.
pub mod Turned
pub mod Outcome
pub mod Left
pub mod Cases
