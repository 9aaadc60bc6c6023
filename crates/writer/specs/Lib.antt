-- Writing a sheet: the outcome of the call, and the steps that lead to it.
pub mod Write
pub mod Steps
