-- One data bit of a sheet turned over: the outcome of the call.
pub mod Alter
