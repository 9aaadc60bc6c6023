-- A plan into bytes.
pub mod Encode
